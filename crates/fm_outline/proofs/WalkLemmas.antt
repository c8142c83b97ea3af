-- The walk over the entries, one more at a time.
use Rattle.std.proofs.Common.{◌≡◌, ℕ, List, [], ◌∷◌, ◌++◌, map, length, get_or, refl, ap, ap₂, sym, ◌∙◌, Bool, cond, Some, None, is_some, subst, arith, Vec, Global}
use Rattle.std.specs.Prelude.{unwrap_or}
use Rattle.std.specs.List.{list_any}
use Rattle.std.specs.Str.{bytes_eq}
use Rattle.std.proofs.lemmas.List.{map-append, length-append}
use lib.ListN.{get_or-map}
use Rattle.fm_names.specs.Named.{named}
use Rattle.fm_names.specs.declared.names.Names as table
use Rattle.fm_warp.specs.declared.part.Part.{Part}
use Rattle.fm_warp.specs.declared.warp.TheConstants.{MAX_PARTS}
use Rattle.fm_grammar.specs.declared.part_text.PartText.{PartText}
use Rattle.fm_grammar.specs.Score as text
use Rattle.fm_grammar.specs.View.{PlacedStmt}
use Rattle.fm_meaning.specs.Resolve.{part_of, meaning_of, named_as}
use Rattle.fm_meaning.specs.Fault.{NumberedFault, fault_if, double_name}
use Rattle.fm_meaning.specs.Faults.{first_found}
use Rattle.fm_meaning.specs.Ranges.{Names, stmt_faults, body_faults, double_faults, each_faults, part_faults, part_length, length_spot, head_faults, entries_faults, second_walk}
use Rattle.fm_meaning.specs.Rules.{score_rules}
use Rattle.fm_expansion.specs.Outline as plain
use Rattle.fm_expansion.specs.Numbering.{Catalogue, numbered, instruction_of, block_of, outline, outline_from, warp_added, no_tables}
use Rattle.fm_outline.specs.declared.known.Known.{Known}
use Rattle.fm_outline.specs.declared.known.Meaning.{Meaning}
use Rattle.fm_outline.specs.declared.known.Meaning.TheVariants.{Shape, Phrase}
use Rattle.fm_outline.specs.declared.step.Step.{Step}
use Rattle.fm_outline.specs.View.{Look, phrase_at, look_in, phrases_view, instruction_view, step_view, block_view}
use Rattle.fm_outline.specs.Growing.{followed}
use Rattle.fm_outline.specs.Asking.{BlockAsks}
use Rattle.fm_outline.specs.declared.needs.Needs.{Needs}
use Rattle.fm_outline.specs.Knows.{Knows, labels, names_of, phrase_number, shape_index}
use Rattle.fm_outline.specs.Outlined.{IsStepOf, IsBlockOf}
use Rattle.fm_outline.specs.Forking.{AreAsking, IsKnownOf, PhrasesAsk, SaysNeeds}
use Rattle.fm_outline.specs.Walked.{Extends, WalkedBy}
use Rattle.fm_outline.proofs.NameLemmas.{either_of, either_known, other_kind, double_is, new_behind}
use Rattle.fm_outline.proofs.PhraseLemmas.{phrases_more}
use Rattle.fm_outline.proofs.LookLemmas.{phrases_length, extends_less, extends_last}
use Rattle.fm_outline.proofs.RefusalLemmas.{before, behind, no_first}
use Rattle.fm_outline.proofs.ForkLemmas.{known_either, more_marked, none_marked, phrases_more_ask}
use Rattle.fm_outline.proofs.AskingLemmas.{body_grown, stmt_grown}
use Rattle.fm_expansion.proofs.Tables.{Grows, grows_self, grows_then, grows_warp}
use Rattle.fm_outline.proofs.SeenLemmas.{step_seen}
use Rattle.fm_outline.proofs.GrowingLemmas.{placed, placed_more}

-- the faults of the parts of a shape
abbrev pub parts_faults : (whole : ℕ) → List PartText → List NumberedFault
parts_faults whole parts = each_faults (part_faults whole) (λ p. length_spot (part_length p)) MAX_PARTS parts

-- ---- entries

-- before the first entry
pub begun : (score : text.Score) (known : Known) (t : plain.Tables) → ((q : List ℕ) → named known.names q ≡ None)
    → t ≡ no_tables → known.whole ≡ (score_rules score).whole_note → None ≡ first_found (head_faults score)
    → known.needs.items ≡ [] → WalkedBy score known [] [] t score.entries
begun score known t names empty is clean no_phrases =
    let k : Catalogue = record { whole = (score_rules score).whole_note; shapes = []; phrases = [] } in
    record {
      k = k;
      first = behind (head_faults score) (entries_faults (names_of k) score.entries) clean;
      knows = λ look more. record {
        whole = sym is;
        shapes = λ q. ap (λ o. unwrap_or (shape_index o) 0) (names q);
        phrases = λ q. ap (λ o. phrase_at look (phrase_number o)) (names q);
        is_shape = λ q. ap (λ o. is_some (shape_index o)) (names q);
        is_phrase = λ q. ap (λ o. is_some (phrase_number o)) (names q);
      };
      stand = λ look more. refl;
      so_far = λ look more. ap (outline_from k score.entries) (sym empty);
      as_many = ap length no_phrases;
      knows_needs = λ look more v grows q.
          subst (λ o. IsKnownOf known.needs.items v look (phrase_number o)) (sym (names q)) tt;
      asking = λ look more v grows. none_marked {P = SaysNeeds v look};
      phrases_asking = λ v grows n within. absurd (omega (arith, within));
    }

module _ {score : text.Score} {known : Known} {phrases : List (List Step)} {block : List Step} {t : plain.Tables} where
  -- the phrases that are there are known to themselves
  knows_here : {rest : List text.Entry} (r : WalkedBy score known phrases block t rest)
      → Knows known (look_in (phrases_view phrases)) r.k
  knows_here r = r.knows _ (λ n within. refl)

  -- a statement more
  pub play_walked : {stmt : PlacedStmt} {rest : List text.Entry} {grown : List Step} (u : plain.Tables) (s : Step)
      → WalkedBy score known phrases block t (text.plays stmt.spot stmt.what ∷ rest) → grown ≡ block ++ s ∷ []
      → IsStepOf known t stmt s u → WalkedBy score known phrases grown u rest
  play_walked {stmt = stmt} {rest = rest} u s r pushed made = record {
    k = r.k;
    first =
        r.first
        ∙ behind (stmt_faults (names_of r.k) stmt.what) (entries_faults (names_of r.k) rest)
        (sym (made.view r.k _ (knows_here r)).0);
    knows = r.knows;
    stand = r.stand;
    so_far = λ look more.
        let steps = map (step_view look) block in
        let what = instruction_view look s.what in
        let here = (made.view r.k look (r.knows look more)).1 in
        let seen : step_view look s ≡ placed stmt.spot what = step_seen look s ∙ ap (λ p. placed p what) made.spot in
        r.so_far look more
        ∙ placed_more (outline_from r.k rest) stmt.spot steps what (instruction_of r.k stmt.what t) u here
        ∙ ap (λ p. followed (steps ++ p ∷ []) (outline_from r.k rest u)) (sym seen)
        ∙ ap (λ l. followed l (outline_from r.k rest u)) (sym (map-append (step_view look) block (s ∷ [])))
        ∙ ap (λ l. followed (map (step_view look) l) (outline_from r.k rest u)) (sym pushed);
    as_many = r.as_many;
    knows_needs = λ look more v grows. r.knows_needs look more v (grows_then t u v (grown look more) grows);
    asking = λ look more v grows.
        let later = grows_then t u v (grown look more) grows in
        more_marked block s pushed (r.asking look more v later)
        (made.asking r.k look (r.knows look more) v grows (r.knows_needs look more v later));
    phrases_asking = λ v grows. r.phrases_asking v (grows_then t u v (grown (look_in (phrases_view phrases)) (λ n within. refl)) grows);
  }
    where
      grown : (look : Look) → Extends (phrases_view phrases) look → Grows t u
      grown look more =
          stmt_grown r.k stmt.what t u (instruction_view look s.what) (made.view r.k look (r.knows look more)).1

  -- a shape more
  pub shape_walked : {name : text.Leaf} {parts : List PartText} {rest : List text.Entry} {names : table.Names Meaning}
      {u : plain.Tables} (p : ℕ) (warp : List Part) → WalkedBy score known phrases block t (text.shape name parts ∷ rest)
      → named known.names name.text ≡ None → None ≡ first_found (parts_faults known.whole parts)
      → warp ≡ map (part_of known.whole) parts → p ≡ length t.warps → u ≡ warp_added warp t
      → ((q : List ℕ) → named names q ≡ cond (bytes_eq q name.text) (Some (Shape p)) (named known.names q))
      → WalkedBy score (record known { names = names }) phrases block u rest
  shape_walked {name = name} {parts = parts} {rest = rest} {u = u} p warp r new clean is at added defined =
      let here : Grows t u = subst (Grows t) (sym added) (grows_warp warp t) in
      let k : Catalogue = record r.k { shapes = named_as name (length t.warps) ∷ r.k.shapes } in
      record {
        k = k;
        first =
            let knows = knows_here r in
            r.first
            ∙ behind (double_faults name (names_of r.k) ++ parts_faults r.k.whole parts) (entries_faults (names_of k) rest)
            (sym (new_behind name (parts_faults r.k.whole parts) knows new
            ∙ ap (λ w. first_found (parts_faults w parts)) knows.whole ∙ sym clean));
        knows = λ look more.
            let knows = r.knows look more in
            record {
              whole = knows.whole;
              shapes = λ q.
                  ap (λ o. unwrap_or (shape_index o) 0) (defined q)
                  ∙ either_of (λ o. unwrap_or (shape_index o) 0) (bytes_eq q name.text) (Shape p) (named known.names q)
                  (length t.warps) (meaning_of q 0 r.k.shapes) at (knows.shapes q);
              phrases = λ q. ap (λ o. phrase_at look (phrase_number o)) (defined q)
                  ∙ other_kind (λ o. phrase_at look (phrase_number o)) q name.text (Shape p) (named known.names) new refl
                  ∙ knows.phrases q;
              is_shape = λ q.
                  ap (λ o. is_some (shape_index o)) (defined q)
                  ∙ either_known (λ o. is_some (shape_index o)) (bytes_eq q name.text) (Shape p) (named known.names q)
                  (list_any (bytes_eq q) (labels r.k.shapes)) refl (knows.is_shape q);
              is_phrase = λ q. ap (λ o. is_some (phrase_number o)) (defined q)
                  ∙ other_kind (λ o. is_some (phrase_number o)) q name.text (Shape p) (named known.names) new refl
                  ∙ knows.is_phrase q;
            };
        stand = r.stand;
        so_far = λ look more.
            let steps = map (step_view look) block in
            r.so_far look more
            ∙ ap (λ w. followed steps (outline_from k rest (warp_added (map (part_of w) parts) t))) (r.knows look more).whole
            ∙ ap (λ w. followed steps (outline_from k rest (warp_added w t))) (sym is)
            ∙ ap (λ w. followed steps (outline_from k rest w)) (sym added);
        as_many = r.as_many;
        knows_needs = λ look more v grows q.
            subst (IsKnownOf known.needs.items v look)
            (sym (ap phrase_number (defined q) ∙ other_kind phrase_number q name.text (Shape p) (named known.names) new refl))
            (r.knows_needs look more v (grows_then t u v here grows) q);
        asking = λ look more v grows. r.asking look more v (grows_then t u v here grows);
        phrases_asking = λ v grows. r.phrases_asking v (grows_then t u v here grows);
      }

  -- a phrase more
  pub phrase_walked : {name : text.Leaf} {body : text.Body} {rest : List text.Entry} {names : table.Names Meaning}
      {asked : Vec Needs Global} {grown : List (List Step)} (u : plain.Tables) (p : ℕ) (steps : List Step) (b : Needs)
      → WalkedBy score known phrases block t (text.phrase name body ∷ rest) → named known.names name.text ≡ None
      → p ≡ length phrases → grown ≡ phrases ++ steps ∷ []
      → ((q : List ℕ) → named names q ≡ cond (bytes_eq q name.text) (Some (Phrase p)) (named known.names q))
      → IsBlockOf known t body steps u → asked.items ≡ known.needs.items ++ b ∷ []
      → ((v : plain.Tables) (look : Look) → AreAsking v look steps → BlockAsks v (block_view look steps) b)
      → WalkedBy score (record known { names = names; needs = asked }) grown block u rest
  phrase_walked {name = name} {body = body} {rest = rest} {names = names} {grown = grown} u p steps b r new at pushed defined made
      flagged says =
      let blocks = phrases_view phrases in
      let value = (block_of r.k body t).value in
      let k : Catalogue = record r.k { phrases = named_as name value ∷ r.k.phrases } in
      let here : (look : Look) → Extends blocks look → numbered (block_view look steps) u ≡ block_of r.k body t
      = λ look more. (made.view r.k look (r.knows look more)).1 in
      let itself : Extends blocks (look_in blocks) = λ n within. refl in
      let last = block_view (look_in blocks) steps in
      let last_is : last ≡ value = ap (λ x. x.value) (here (look_in blocks) itself) in
      let all : phrases_view grown ≡ blocks ++ last ∷ [] = ap phrases_view pushed ∙ phrases_more [] phrases steps in
      let fewer : (look : Look) → Extends (phrases_view grown) look → Extends blocks look
      = λ look more. extends_less blocks last look (subst (λ bs. Extends bs look) all more) in
      let found : (look : Look) → Extends (phrases_view grown) look → look p ≡ value
      = λ look more.
      ap look (at ∙ sym (phrases_length phrases))
      ∙ extends_last blocks last look (subst (λ bs. Extends bs look) all more) ∙ last_is in
      let later : (v : plain.Tables) → Grows u v → Grows t v
      = λ v grows. grows_then t u v (body_grown r.k body t u last (here (look_in blocks) itself)) grows in
      record {
        k = k;
        first =
            let knows = knows_here r in
            r.first
            ∙ behind (double_faults name (names_of r.k) ++ body_faults (names_of r.k) body) (entries_faults (names_of k) rest)
            (sym (new_behind name (body_faults (names_of r.k) body) knows new ∙ (made.view r.k _ knows).0));
        knows = λ look more.
            let knows = r.knows look (fewer look more) in
            record {
              whole = knows.whole;
              shapes = λ q.
                  ap (λ o. unwrap_or (shape_index o) 0) (defined q)
                  ∙ other_kind (λ o. unwrap_or (shape_index o) 0) q name.text (Phrase p) (named known.names) new refl
                  ∙ knows.shapes q;
              phrases = λ q.
                  ap (λ o. phrase_at look (phrase_number o)) (defined q)
                  ∙ either_of (λ o. phrase_at look (phrase_number o)) (bytes_eq q name.text) (Phrase p)
                  (named known.names q) value (meaning_of q plain.done r.k.phrases) (found look more) (knows.phrases q);
              is_shape = λ q.
                  ap (λ o. is_some (shape_index o)) (defined q)
                  ∙ other_kind (λ o. is_some (shape_index o)) q name.text (Phrase p) (named known.names) new refl
                  ∙ knows.is_shape q;
              is_phrase = λ q.
                  ap (λ o. is_some (phrase_number o)) (defined q)
                  ∙ either_known (λ o. is_some (phrase_number o)) (bytes_eq q name.text) (Phrase p) (named known.names q)
                  (list_any (bytes_eq q) (labels r.k.phrases)) refl (knows.is_phrase q);
            };
        stand = λ look more.
            let same : last ≡ block_view look steps
            = last_is ∙ sym (ap (λ x. x.value) (here look (fewer look more))) in
            all
            ∙ ap₂ (λ bs b. bs ++ b ∷ []) (r.stand look (fewer look more)) same
            ∙ sym (map-append (block_view look) phrases (steps ∷ []))
            ∙ ap (map (block_view look)) (sym pushed);
        so_far = λ look more.
            r.so_far look (fewer look more)
            ∙ ap (λ x. followed (map (step_view look) block) (outline_from k rest x))
            (sym (ap (λ x. x.tables) (here look (fewer look more))));
        as_many =
            ap length flagged
            ∙ omega (arith, length-append known.needs.items (b ∷ []), length-append phrases (steps ∷ []), r.as_many, ap length pushed);
        knows_needs = λ look more v grows q.
            let fs = known.needs.items in
            let knows = r.knows look (fewer look more) in
            let needs = r.knows_needs look (fewer look more) v (later v grows) in
            let own : BlockAsks v (look p) b
            = subst (λ x. BlockAsks v x b) (ap (λ x. x.value) (here look (fewer look more)) ∙ sym (found look more))
            (says v look (made.asking r.k look knows v grows needs)) in
            subst (λ l. IsKnownOf l v look (phrase_number (named names q))) (sym flagged)
            (subst (λ o. IsKnownOf (fs ++ b ∷ []) v look (phrase_number o)) (sym (defined q))
            (known_either v look fs b p (bytes_eq q name.text) (named known.names q) (at ∙ sym r.as_many) own (needs q)));
        asking = λ look more v grows. r.asking look (fewer look more) v (later v grows);
        phrases_asking = λ v grows.
            phrases_more_ask v phrases steps pushed (r.phrases_asking v (later v grows))
            (made.asking r.k _ (knows_here r) v grows (r.knows_needs _ itself v (later v grows)));
      }

  -- ---- entries with a fault

  -- a first fault of the first entry
  pub first_refused : {e : text.Entry} {rest : List text.Entry} → WalkedBy score known phrases block t (e ∷ rest) → (f : NumberedFault)
      → ((k : Catalogue) (look : Look) → Knows known look k → first_found (entries_faults (names_of k) (e ∷ rest)) ≡ Some f)
      → first_found (second_walk score) ≡ Some f
  first_refused r f told = r.first ∙ told r.k _ (knows_here r)

  -- a name that is defined before, in front of what stands behind it
  pub name_refused : {e : text.Entry} {rest : List text.Entry} → WalkedBy score known phrases block t (e ∷ rest) → (name : text.Leaf)
      (f : NumberedFault) (inside others : Names → List NumberedFault)
      → ((ns : Names) → entries_faults ns (e ∷ rest) ≡ double_faults name ns ++ inside ns ++ others ns)
      → first_found (fault_if (is_some (named known.names name.text)) name.spot double_name) ≡ Some f
      → first_found (second_walk score) ≡ Some f
  name_refused r name f inside others all told =
      let ns = names_of r.k in
      r.first ∙ ap first_found (all ns)
      ∙ before (double_faults name ns ++ inside ns) (others ns) f
      (before (double_faults name ns) (inside ns) f (ap first_found (sym (double_is name (knows_here r))) ∙ told))

  -- what stands behind a new name
  pub inside_refused : {e : text.Entry} {rest : List text.Entry} → WalkedBy score known phrases block t (e ∷ rest) → (name : text.Leaf)
      (f : NumberedFault) (inside others : Names → List NumberedFault)
      → ((ns : Names) → entries_faults ns (e ∷ rest) ≡ double_faults name ns ++ inside ns ++ others ns)
      → named known.names name.text ≡ None
      → ((k : Catalogue) (look : Look) → Knows known look k → first_found (inside (names_of k)) ≡ Some f)
      → first_found (second_walk score) ≡ Some f
  inside_refused r name f inside others all new told =
      let ns = names_of r.k in
      r.first ∙ ap first_found (all ns)
      ∙ before (double_faults name ns ++ inside ns) (others ns) f
      (new_behind name (inside ns) (knows_here r) new ∙ told r.k _ (knows_here r))

  -- ---- no entry is left

  -- the score has no fault
  pub ends_faultless : WalkedBy score known phrases block t [] → second_walk score ≡ []
  ends_faultless r = no_first (second_walk score) (sym r.first)

  -- each statement says rightly what it asks
  pub ends_asking : {rest : List text.Entry} → WalkedBy score known phrases block t rest
      → AreAsking t (look_in (phrases_view phrases)) block
  ends_asking r = r.asking (look_in (phrases_view phrases)) (λ n within. refl) t (grows_self t)

  -- and so do those of the phrases
  pub ends_phrases : {rest : List text.Entry} → WalkedBy score known phrases block t rest → PhrasesAsk t phrases
  ends_phrases r = r.phrases_asking t (grows_self t)

  -- what was made is the outline
  pub ends_as_outline : WalkedBy score known phrases block t []
      → numbered (block_view (look_in (phrases_view phrases)) block) t ≡ outline score
  ends_as_outline r = sym (r.so_far (look_in (phrases_view phrases)) (λ n within. refl))

  -- each phrase stands for its statements
  pub phrases_stand : {rest : List text.Entry} → WalkedBy score known phrases block t rest → (n : ℕ)
      → look_in (phrases_view phrases) n ≡ block_view (look_in (phrases_view phrases)) (get_or phrases n [])
  phrases_stand r n =
      let look = look_in (phrases_view phrases) in
      ap (λ bs. get_or bs n plain.done) (r.stand look (λ m within. refl))
      ∙ get_or-map (block_view look) phrases n []
