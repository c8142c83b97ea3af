mod WayRows
