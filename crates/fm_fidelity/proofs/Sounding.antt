-- What is heard of a note of a program is what is heard of the note that is played.
use Rattle.std.proofs.Common.{◌≡◌, ℕ, suc, ◌+◌, List, [], ◌∷◌, ◌++◌, map, length, refl, sym, ap, ap₂, ◌∙◌, arith}
use Rattle.std.specs.Prelude.{Some}
use Rattle.fm_msg.specs.declared.msg.Msg.{Msg}
use Rattle.fm_msg.specs.declared.msg.Msg.TheVariants.{On, Off}
use Rattle.fm_line.specs.Marks.{Mark}
use Rattle.fm_program.specs.State.{OpenLevel}
use Rattle.fm_program.specs.Run.{marks_of}
use Rattle.fm_meaning.specs.Resolved.{DataSource}
use Rattle.fm_meaning.specs.State.{Now, amount_drawn, keys_drawn}
use Rattle.fm_meaning.specs.Played.{sent}
use Rattle.fm_fidelity.proofs.Plain.{heard, heard_append, heard_plain}
use Rattle.fm_fidelity.proofs.Keeping.{sent_after}

-- as many marks as messages
pub marks_length : (j i x y : ℕ) (ms : List Msg) → length (marks_of j i x y ms) ≡ length ms
marks_length j i x y [] = refl
marks_length j i x y (m ∷ ms) = ap suc (marks_length j (i + 1) x y ms)

-- messages behind others
marks_append : (j i x y : ℕ) (ms ns : List Msg)
    → marks_of j i x y (ms ++ ns) ≡ marks_of j i x y ms ++ marks_of j (i + length ms) x y ns
marks_append j i x y [] ns = ap (λ k. marks_of j k x y ns) (none i)
  where
    none : (k : ℕ) → k ≡ k + 0
    none k = omega arith
marks_append j i x y (m ∷ ms) ns =
    let first : Mark = record { process = j; index = i; msg = Some m; onset = x; ending = y } in
    ap (λ l. first ∷ l) (marks_append j (i + 1) x y ms ns)
    ∙ ap (λ k. first ∷ (marks_of j (i + 1) x y ms ++ marks_of j k x y ns)) (one i (length ms))
  where
    one : (k n : ℕ) → k + 1 + n ≡ k + suc n
    one k n = omega arith

-- messages that are sent are these marks
sent_marks : (ms : List Msg) (e : ℕ) (n : Now)
    → (sent ms e n).marks ≡ marks_of n.process n.index n.position e ms
sent_marks [] e n = refl
sent_marks (m ∷ ms) e n =
    let first : Mark = record {
      process = n.process;
      index = n.index;
      msg = Some m;
      onset = n.position;
      ending = e;
    } in
    ap (λ l. first ∷ l) (sent_marks ms e (record n { index = n.index + 1 }))

-- the ending of a note-on is not heard
ons_heard : (ls : List OpenLevel) (j i x y ch v : ℕ) (ks : List ℕ)
    → heard ls (marks_of j i x y (map (λ key. On ch key v) ks)) ≡ heard ls
    (marks_of j i x x (map (λ key. On ch key v) ks))
ons_heard ls j i x y ch v [] = refl
ons_heard ls j i x y ch v (k ∷ ks) =
    let first : Mark = record { process = j; index = i; msg = Some (On ch k v); onset = x; ending = y } in
    let second : Mark = record { process = j; index = i; msg = Some (On ch k v); onset = x; ending = x } in
    ap₂ (λ m ms. m ∷ ms) (heard_plain ls first second refl) (ons_heard ls j (i + 1) x y ch v ks)

-- a note
pub note_heard : (ls : List OpenLevel) (n : Now) (ch v y : ℕ) (ks : List ℕ)
    → heard ls (marks_of n.process n.index n.position y (map (λ key. On ch key v) ks ++ map (Off ch) ks))
    ≡ heard ls ((sent (map (λ key. On ch key v) ks) n.position n).marks
    ++ (sent (map (Off ch) ks) y (sent (map (λ key. On ch key v) ks) n.position n).after).marks)
note_heard ls n ch v y ks =
    let ons = map (λ key. On ch key v) ks in
    let offs = map (Off ch) ks in
    let behind = (sent ons n.position n).after in
    let x = n.position in
    let rest : (sent offs y behind).marks ≡ marks_of n.process (n.index + length ons) x y offs =
    sent_marks offs y behind ∙ ap (λ m. marks_of m.process m.index m.position y offs)
    (sent_after ons x n) in
    ap (heard ls) (marks_append n.process n.index x y ons offs)
    ∙ heard_append ls (marks_of n.process n.index x y ons)
    (marks_of n.process (n.index + length ons) x y offs)
    ∙ ap₂ (λ a b. a ++ b)
    (ons_heard ls n.process n.index x y ch v ks ∙ ap (heard ls) (sym (sent_marks ons x n)))
    (ap (heard ls) (sym rest))
    ∙ sym (heard_append ls (sent ons x n).marks (sent offs y behind).marks)

-- there is a key for each pitch
pub keys_count : (ds : List DataSource) (n : Now) → length (keys_drawn ds n).value ≡ length ds
keys_count [] n = refl
keys_count (d ∷ ds) n = ap suc (keys_count ds (amount_drawn d n).after)
