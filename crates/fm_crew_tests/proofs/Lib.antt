mod NewSeats
