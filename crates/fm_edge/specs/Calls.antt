-- How often the host was called, and how many of these calls failed.
use Rattle.std.specs.Prelude.{ℕ, ◌+◌, nat_eq, if◌then◌else◌, Result, Ok, Err}

pub record Calls : Type 0 where
  pub made : ℕ
  pub failed : ℕ

-- it was not called yet
abbrev pub uncalled : Calls
uncalled = record { made = 0; failed = 0 }

-- after one more call, which was Ok
abbrev pub answered : Calls → Calls
answered c = record { made = c.made + 1; failed = c.failed }

-- after one more call, which failed
abbrev pub refused : Calls → Calls
refused c = record { made = c.made + 1; failed = c.failed + 1 }

-- after one more call, which ended so
abbrev pub called : {T E : Type 0} → Calls → Result T E → Calls
called c (Ok x) = answered c
called c (Err e) = refused c

-- after one more write, which ended so: it failed too where it took nothing
abbrev pub wrote : {E : Type 0} → Calls → Result ℕ E → Calls
wrote c (Ok n) = if nat_eq n 0 then refused c else answered c
wrote c (Err e) = refused c

-- the calls of both together
abbrev pub both : Calls → Calls → Calls
both a b = record { made = a.made + b.made; failed = a.failed + b.failed }
