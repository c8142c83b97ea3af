-- What is still to come out of sounds while some wait: one that waits, the sound itself, a note-off that joins, and the end.
use Rattle.std.proofs.Common.{◌≡◌, ℕ, ◌≤◌, List, [], ◌∷◌, ◌++◌, length, Bool, true, false, refl, sym, ap, ap₂, ◌∙◌, arith}
use Rattle.std.specs.Prelude.{if◌then◌else◌}
use Rattle.fm_line.specs.Sounds.{Sound, come_out_after, is_note_off, left_waiting, most_waiting, ons_ahead, out_before}
use Rattle.fm_line.specs.Runs.{BeginsFrom}
use Rattle.fm_line.proofs.OutEager.{split_eager}
use Rattle.fm_offs.specs.Stack.{HasRoom, LetsOut}

-- ---- before a sound

-- a sound that is no note-off, at a tick, with so many note-ons from it on
module _ (t k e : ℕ) (s : Sound) (xs : List Sound) (begins : is_note_off s.msg ≡ false) (at : s.time ≡ t)
    (ahead : ons_ahead (s ∷ xs) ≡ k) where
  spelled : (ws : List Sound) → come_out_after ws (s ∷ xs) e ≡ out_before t k ws ++ s ∷ come_out_after (left_waiting t k ws) xs e
  spelled ws =
      ap (λ (b : Bool). if b then come_out_after (ws ++ s ∷ []) xs e
      else out_before s.time (ons_ahead (s ∷ xs)) ws ++ s ∷ come_out_after (left_waiting s.time (ons_ahead (s ∷ xs)) ws) xs e) begins
      ∙ ap₂ (λ (u n : ℕ). out_before u n ws ++ s ∷ come_out_after (left_waiting u n ws) xs e) at ahead

  -- one that waits comes out before it
  pub rest-before : (ws ws' : List Sound) (x : Sound) → LetsOut t k ws ws' x
      → come_out_after ws (s ∷ xs) e ≡ x ∷ come_out_after ws' (s ∷ xs) e
  rest-before ws ws' x lets =
      spelled ws
      ∙ ap₂ (λ (us vs : List Sound). us ++ s ∷ come_out_after vs xs e) lets.out lets.left
      ∙ ap (λ (l : List Sound). x ∷ l) (sym (spelled ws'))

  -- where none does, it comes out itself
  pub rest-sound : (ws : List Sound) → HasRoom t k ws → come_out_after ws (s ∷ xs) e ≡ s ∷ come_out_after ws xs e
  rest-sound ws room =
      spelled ws ∙ ap₂ (λ (us vs : List Sound). us ++ s ∷ come_out_after vs xs e) room.out room.left

-- one that waits and is due comes out before all that begins from the tick on
pub rest-due : (t e : ℕ) (ws ws' xs : List Sound) (x : Sound) → length ws ≤ most_waiting → BeginsFrom t e xs → LetsOut t 0 ws ws' x
    → come_out_after ws xs e ≡ x ∷ come_out_after ws' xs e
rest-due t e ws ws' xs x few begins lets =
    split_eager (length ws) t e ws xs (omega arith) few begins
    ∙ ap₂ (λ (us vs : List Sound). us ++ come_out_after vs xs e) lets.out lets.left
    ∙ ap (λ (l : List Sound). x ∷ l)
    (sym (split_eager (length ws') t e ws' xs (omega arith) (let fewer = lets.fewer in omega arith) begins))

-- ---- a note-off, and the end

-- a note-off joins those that wait
pub rest-joins : (e : ℕ) (ws : List Sound) (s : Sound) (xs : List Sound) → is_note_off s.msg ≡ true
    → come_out_after ws (s ∷ xs) e ≡ come_out_after (ws ++ s ∷ []) xs e
rest-joins e ws s xs off =
    ap (λ (b : Bool). if b then come_out_after (ws ++ s ∷ []) xs e
    else out_before s.time (ons_ahead (s ∷ xs)) ws ++ s ∷ come_out_after (left_waiting s.time (ons_ahead (s ∷ xs)) ws) xs e) off

-- one that waits comes out at the end
pub rest-end : (e : ℕ) (ws ws' : List Sound) (x : Sound) → LetsOut e most_waiting ws ws' x
    → come_out_after ws [] e ≡ x ∷ come_out_after ws' [] e
rest-end e ws ws' x lets = lets.out

none_there : (ws : List Sound) → length ws ≡ 0 → ws ≡ []
none_there [] none = refl
none_there (w ∷ ws) none = absurd (omega arith)

-- where none does, none waits
pub rest-ended : (e : ℕ) (ws : List Sound) → HasRoom e most_waiting ws → (ws ≡ []) × (come_out_after ws [] e ≡ [])
rest-ended e ws room = (none_there ws (let few = room.room in omega arith), room.out)
