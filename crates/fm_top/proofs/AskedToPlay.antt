-- Words ask to play a text exactly where they keep to the rules with the options of playing alone.
use Rattle.std.proofs.Common.{◌≡◌, ℕ, Bool, true, false, List, map, Option, Some, None, option_map, refl, ap, if◌then◌else◌}
use Rattle.std.specs.Prelude.{String, string_bytes}
use Rattle.fm_words.specs.Asked.{options, settings_by_rules, settings_in_parts}
use Rattle.fm_words.specs.Rules.{keeps_rules, parts_of}
use Rattle.fm_words.specs.Settings.{Settings}
use Rattle.fm_top.specs.PlayWords.{AskToPlay}
use Rattle.fm_top.specs.Tasks.{asked, or_locate, record_task, task_of, window_task}
use Rattle.fm_top.specs.declared.task.Task.TheVariants as task
use Rattle.fm_top.proofs.PlaySettings.{IsToPlay, played, plays}

-- with no other option a text is played
task_is : (s : Settings) → IsToPlay s → task_of s ≡ task.Play None
task_is s p = rw (p.audited, p.list, p.recorded, p.locate, p.parts, p.generate, p.from, p.to) refl

-- and only then
is_to_play : (s : Settings) → task_of s ≡ task.Play None → IsToPlay s
is_to_play s is = go s.audited s.list s.recorded s.parts s.locate s.generate s.from s.to refl refl refl refl refl refl refl refl is
  where
    go : (a l r p : Bool) (at number begin until : Option ℕ) → s.audited ≡ a → s.list ≡ l → s.recorded ≡ r → s.parts ≡ p → s.locate ≡ at
        → s.generate ≡ number → s.from ≡ begin → s.to ≡ until
        → (if a then task.Audit else if l then task.List else if r then record_task s
        else or_locate number at s.process (if p then task.Split number else window_task number begin until)) ≡ task.Play None
        → IsToPlay s
    go true l r p at number begin until a1 l1 r1 p1 at1 n1 b1 u1 is = cc
    go false true r p at number begin until a1 l1 r1 p1 at1 n1 b1 u1 is = cc
    go false false true p at number begin until a1 l1 r1 p1 at1 n1 b1 u1 is = cc
    go false false false p (Some tick) number begin until a1 l1 r1 p1 at1 n1 b1 u1 is = cc
    go false false false true None number begin until a1 l1 r1 p1 at1 n1 b1 u1 is = cc
    go false false false false None number (Some begin) until a1 l1 r1 p1 at1 n1 b1 u1 is = cc
    go false false false false None number None (Some until) a1 l1 r1 p1 at1 n1 b1 u1 is = cc
    go false false false false None (Some number) None None a1 l1 r1 p1 at1 n1 b1 u1 is = cc
    go false false false false None None None None a1 l1 r1 p1 at1 n1 b1 u1 is = record {
      audited = a1;
      list = l1;
      recorded = r1;
      parts = p1;
      generate = n1;
      locate = at1;
      from = b1;
      to = u1;
    }

asked_then : (b : Bool) (s : Settings) → option_map task_of (if b then Some s else None) ≡ Some (task.Play None)
    → (b ≡ true) × (task_of s ≡ task.Play None)
asked_then true s is = (refl, (let same : task_of s ≡ task.Play None = cc in same))
asked_then false s is = cc

-- words with the options of playing alone ask to play a text
pub asks_to_play : {A : Type 0} (words : List (String A)) → AskToPlay words → asked words ≡ Some (task.Play None)
unfolding settings_by_rules
asks_to_play words kept =
    let p = plays (map string_bytes words) kept in
    rw p.0 (ap Some (task_is (settings_in_parts (parts_of options (map string_bytes words))) p.1))

-- and those that do have no others
pub to_play : {A : Type 0} (words : List (String A)) → asked words ≡ Some (task.Play None) → AskToPlay words
unfolding settings_by_rules
to_play words is =
    let ps = parts_of options (map string_bytes words) in
    let p = asked_then (keeps_rules options ps) (settings_in_parts ps) is in
    played (map string_bytes words) p.0 (is_to_play (settings_in_parts ps) p.1)
