-- The limits of large scores in numbers.
use Rattle.std.proofs.Common.{◌≡◌, refl}
use Rattle.fm_gen.specs.declared.score.TheConstants.{MAX_NUMBER, MAX_SCORE}
use Rattle.fm_gen.specs.declared.summary.TheConstants.{MAX_SUMMARY}

most_number : MAX_NUMBER ≡ 999999999
most_number = refl

most_bytes_of_a_score : MAX_SCORE ≡ 1596
most_bytes_of_a_score = refl

most_bytes_of_a_summary : MAX_SUMMARY ≡ 112
most_bytes_of_a_summary = refl
