-- Worked examples of the texts on the console.
use Rattle.std.specs.Prelude.{◌≡◌, ℕ, codes, refl}
use Rattle.fm_tell.specs.declared.run_fault.RunFault.{RunFault}
use Rattle.fm_tell.specs.declared.run_fault.RunFault.TheVariants.{Words, Read, Score, File, Record, NoProcess, Write, Memory}
use Rattle.fm_tell.specs.Telling.{fault_status, fault_text}

abbrev at : ℕ → ℕ → ℕ → RunFault
at line column number = Score (record { line = line; column = column }) number

text-of_words : fault_text Words ≡ codes "formula: words refused\n"
unfolding fault_text
text-of_words = refl

text-of_read : fault_text Read ≡ codes "formula: read fault\n"
unfolding fault_text
text-of_read = refl

text-of_no_process : fault_text NoProcess ≡ codes "formula: no such process\n"
unfolding fault_text
text-of_no_process = refl

text-of_write : fault_text Write ≡ codes "formula: write fault\n"
unfolding fault_text
text-of_write = refl

text-of_memory : fault_text Memory ≡ codes "formula: out of memory\n"
unfolding fault_text
text-of_memory = refl

status-of_words : fault_status Words ≡ 1
status-of_words = refl

status-of_read : fault_status Read ≡ 2
status-of_read = refl

status-of_score : fault_status (at 1 1 18) ≡ 3
status-of_score = refl

status-of_file : fault_status (File 41 23) ≡ 3
status-of_file = refl

status-of_record : fault_status (Record 22 43) ≡ 3
status-of_record = refl

status-of_no_process : fault_status NoProcess ≡ 7
status-of_no_process = refl

status-of_write : fault_status Write ≡ 4
status-of_write = refl

status-of_memory : fault_status Memory ≡ 6
status-of_memory = refl
