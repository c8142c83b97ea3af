-- The numbers of the faults of a file, and how they are written.
use Rattle.std.specs.Prelude.{ℕ, List, ◌++◌, codes}
use Rattle.std.specs.Fmt as written
use Rattle.fm_read.specs.declared.fault.ReadKind.{ReadKind}
use Rattle.fm_read.specs.declared.fault.ReadKind.TheVariants.{Wrapped, NotMidi, Truncated, ShortHeader, FormatTwo, BadFormat, Smpte}
use Rattle.fm_read.specs.declared.fault.ReadKind.TheVariants.{BadQuantity, BadStatus, BadData, NoStatus, NoEnd, AfterEnd, NoTrack}

-- the number of a fault
abbrev pub kind_number : ReadKind → ℕ
kind_number Wrapped = 21
kind_number NotMidi = 22
kind_number Truncated = 23
kind_number ShortHeader = 24
kind_number FormatTwo = 25
kind_number BadFormat = 26
kind_number Smpte = 27
kind_number BadQuantity = 28
kind_number BadStatus = 29
kind_number BadData = 30
kind_number NoStatus = 31
kind_number NoEnd = 32
kind_number AfterEnd = 33
kind_number NoTrack = 34

-- how a fault is written
abbrev pub kind_text : ReadKind → List ℕ
kind_text kind = codes "fault " ++ written.decimal (kind_number kind)
