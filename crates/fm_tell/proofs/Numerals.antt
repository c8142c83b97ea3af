-- The exit statuses in numbers.
use Rattle.std.proofs.Common.{◌≡◌, refl}
use Rattle.fm_tell.specs.declared.status.TheConstants.{CONSOLE_FAULT, DONE, NO_PROCESS, OUT_OF_MEMORY, READ_FAULT, SCORE_REFUSED, WORDS_REFUSED, WRITE_FAULT}

done : DONE ≡ 0
done = refl

words_refused : WORDS_REFUSED ≡ 1
words_refused = refl

read_fault : READ_FAULT ≡ 2
read_fault = refl

score_refused : SCORE_REFUSED ≡ 3
score_refused = refl

write_fault : WRITE_FAULT ≡ 4
write_fault = refl

console_fault : CONSOLE_FAULT ≡ 5
console_fault = refl

out_of_memory : OUT_OF_MEMORY ≡ 6
out_of_memory = refl

no_process : NO_PROCESS ≡ 7
no_process = refl
