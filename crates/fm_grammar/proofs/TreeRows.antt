-- Texts and the scores that they read as, by computing.
use Rattle.std.proofs.Common.{ℕ, pos, negsuc, List, [], ◌∷◌, ◌++◌, Some, None, refl, rules}
use Rattle.std.specs.Prelude.{codes}
use Rattle.fm_lex.specs.declared.spot.Spot.{Spot}
use Rattle.fm_lex.specs.Tokens.{tokens, walk}
use Rattle.fm_value.specs.declared.node.Node.{Node}
use Rattle.fm_value.specs.declared.node.Node.TheVariants as nodes
use Rattle.fm_value.specs.declared.expr.Spot2.{Spot2}
use Rattle.fm_grammar.specs.declared.number.Number.{Number}
use Rattle.fm_grammar.specs.declared.length.Length.TheVariants.{Share, Ticks}
use Rattle.fm_grammar.specs.declared.part_text.PartText.TheVariants.{Flat, Slope, Pause, Breath}
use Rattle.fm_grammar.specs.Score.{Leaf, Postfix, Score}
use Rattle.fm_grammar.specs.Score as tree
use Rattle.fm_grammar.specs.Grammar.{NumForm, Mores, no_more, more, Listed, share, ticks, flat, slope, pause, breath, times, over, modulo, plus, minus, least, greatest, below, equal, expr, register, index, negate, pick, compare, no_term, term, no_sum, sum, negative, fixed, named, keyed, program, bend, channel, volume, gate, artic, loud, no_stmt, stmt, block, no_else, otherwise, no_branch, branch, note, play, rest, skip, control, send, set, choice, repeat, again, call, warp, par, scope, rhythm, cycling, shape, phrase, plays, no_entry, entry, no_division, division, no_seed, seed, ScoreForm}
use Rattle.fm_grammar.specs.Grammar as forms
use Rattle.fm_grammar.specs.Within.{limits}
use Rattle.fm_grammar.specs.Reads.{Reads}

-- a spot in the first line
abbrev at_column : ℕ → Spot
at_column n = record { line = 1; column = n }

abbrev leaf : List ℕ → ℕ → Leaf
leaf text n = record { text = text; spot = at_column n }

abbrev number : ℕ → List ℕ → ℕ → NumForm
number v text n = record { value = v; leaf = leaf text n }

abbrev value : ℕ → ℕ → Number
value v n = record { value = v; spot = at_column n }

abbrev listed : {A : Type 0} → A → Mores A → Listed A
listed x xs = record { first = x; others = xs }

abbrev place : ℕ → Spot2
place n = record { line = 1; column = n }

abbrev postfix : List Node → List Spot2 → Postfix
postfix ns ps = record { nodes = ns; spots = ps }

abbrev definitions_text : List ℕ
definitions_text =
    codes "formula 1; seed 7; shape s = flat 1/4 by 1000, slope ticks 480 by 900 to 2000, pause 1/8, breath ticks 0; "
    ++ codes "phrase p { play c4, g9; skip; } do p; warp s { rest 3/8; }"

abbrev definitions_form : ScoreForm
definitions_form = record {
  word = (leaf (codes "formula") 1);
  version = (number 1 (codes "1") 9);
  ends = (leaf (codes ";") 10);
  divided = no_division;
  seeded = (seed (leaf (codes "seed") 12) (number 7 (codes "7") 17) (leaf (codes ";") 18));
  last = (leaf [] 165);
  entries = (entry (shape (leaf (codes "shape") 20) (leaf (codes "s") 26) (leaf (codes "=") 28) (listed (flat (leaf (codes "flat") 30)
      (share (number 1 (codes "1") 35) (leaf (codes "/") 36) (number 4 (codes "4") 37)) (leaf (codes "by") 39) (number 1000 (codes "1000")
      42)) (more (leaf (codes ",") 46) (slope (leaf (codes "slope") 48) (ticks (leaf (codes "ticks") 54) (number 480 (codes "480") 60))
      (leaf (codes "by") 64) (number 900 (codes "900") 67) (leaf (codes "to") 71) (number 2000 (codes "2000") 74)) (more (leaf (codes ",")
      78) (pause (leaf (codes "pause") 80) (share (number 1 (codes "1") 86) (leaf (codes "/") 87) (number 8 (codes "8") 88))) (more (leaf
      (codes ",") 89) (breath (leaf (codes "breath") 91) (ticks (leaf (codes "ticks") 98) (number 0 (codes "0") 104))) no_more)))) (leaf
      (codes ";") 105)) (entry (phrase (leaf (codes "phrase") 107) (leaf (codes "p") 114) (block (leaf (codes "{") 116) (stmt (play (leaf
      (codes "play") 118) (listed (named 60 (leaf (codes "c4") 123)) (more (leaf (codes ",") 125) (named 127 (leaf (codes "g9") 127))
      no_more)) (leaf (codes ";") 129)) (stmt (skip (leaf (codes "skip") 131) (leaf (codes ";") 135)) no_stmt)) (leaf (codes "}") 137)))
      (entry (plays (call (leaf (codes "do") 139) (leaf (codes "p") 142) (leaf (codes ";") 143))) (entry (plays (warp (leaf (codes "warp")
      145) (leaf (codes "s") 150) (block (leaf (codes "{") 152) (stmt (rest (leaf (codes "rest") 154) (fixed (share (number 3 (codes "3")
      159) (leaf (codes "/") 160) (number 8 (codes "8") 161))) (leaf (codes ";") 162)) no_stmt) (leaf (codes "}") 164)))) no_entry))));
}

abbrev definitions_score : Score
definitions_score = record {
  version = (value 1 9);
  division = None;
  seed = (Some (value 7 17));
  entries = tree.shape (leaf (codes "s") 26) ((Flat (Share (value 1 35) (value 4 37)) (value 1000 42)) ∷ (Slope (Ticks (value 480 60))
      (value 900 67) (value 2000 74)) ∷ (Pause (Share (value 1 86) (value 8 88))) ∷ (Breath (Ticks (value 0 104))) ∷ []) ∷ tree.phrase
      (leaf (codes "p") 114) (tree.then (at_column 118) (tree.play ((tree.named 60 (at_column 123)) ∷ (tree.named 127 (at_column 127)) ∷
      [])) (tree.then (at_column 131) tree.skip tree.done)) ∷ tree.plays (at_column 139) (tree.call (leaf (codes "p") 142)) ∷ tree.plays
      (at_column 145) (tree.warp (leaf (codes "s") 150) (tree.then (at_column 154) (tree.rest (tree.fixed (Share (value 3 159) (value 8
      161)))) tree.done)) ∷ [];
}

definitions : Reads limits (tokens definitions_text) definitions_score
unfolding walk
definitions = record { form = definitions_form; text = refl; within = search rules; head = tt; stands_for = refl }

abbrev values_text : List ℕ
values_text =
    codes "formula 2; note bb3, key -1, key (60 + pick(n0 * 2 - r1)) ticks (same(1, n15) % 3) max 9; control 7 100; "
    ++ codes "program -5; bend (min(1, 2) / max(3, 4 - 5 - 6)); set r7 = -less(1, 2 + 3 * 4) ;"

abbrev values_form : ScoreForm
values_form = record {
  word = (leaf (codes "formula") 1);
  version = (number 2 (codes "2") 9);
  ends = (leaf (codes ";") 10);
  divided = no_division;
  seeded = no_seed;
  last = (leaf [] 186);
  entries = (entry (plays (note (leaf (codes "note") 12) (listed (named 58 (leaf (codes "bb3") 17)) (more (leaf (codes ",") 20) (keyed
      (leaf (codes "key") 22) (negative (leaf (codes "-") 26) (number 1 (codes "1") 27))) (more (leaf (codes ",") 28) (keyed (leaf (codes
      "key") 30) (forms.AmountForm.computed (leaf (codes "(") 34) (expr (forms.FactorForm.number (number 60 (codes "60") 35)) no_term (sum
      plus (leaf (codes "+") 38) (pick (leaf (codes "pick") 40) (leaf (codes "(") 44) (expr (index 0 (leaf (codes "n0") 45)) (term times
      (leaf (codes "*") 48) (forms.FactorForm.number (number 2 (codes "2") 50)) no_term) (sum minus (leaf (codes "-") 52) (register 1
      (leaf (codes "r1") 54)) no_term no_sum)) (leaf (codes ")") 56)) no_term no_sum)) (leaf (codes ")") 57))) no_more)))
      (forms.DurationForm.computed (leaf (codes "ticks") 59) (leaf (codes "(") 65) (expr (compare equal (leaf (codes "same") 66) (leaf
      (codes "(") 70) (expr (forms.FactorForm.number (number 1 (codes "1") 71)) no_term no_sum) (leaf (codes ",") 72) (expr (index 15
      (leaf (codes "n15") 74)) no_term no_sum) (leaf (codes ")") 77)) (term modulo (leaf (codes "%") 79) (forms.FactorForm.number (number
      3 (codes "3") 81)) no_term) no_sum) (leaf (codes ")") 82) (leaf (codes "max") 84) (number 9 (codes "9") 88)) (leaf (codes ";") 89)))
      (entry (plays (control (leaf (codes "control") 91) (number 7 (codes "7") 99) (forms.AmountForm.number (number 100 (codes "100")
      101)) (leaf (codes ";") 104))) (entry (plays (send program (leaf (codes "program") 106) (negative (leaf (codes "-") 114) (number 5
      (codes "5") 115)) (leaf (codes ";") 116))) (entry (plays (send bend (leaf (codes "bend") 118) (forms.AmountForm.computed (leaf
      (codes "(") 123) (expr (compare least (leaf (codes "min") 124) (leaf (codes "(") 127) (expr (forms.FactorForm.number (number 1
      (codes "1") 128)) no_term no_sum) (leaf (codes ",") 129) (expr (forms.FactorForm.number (number 2 (codes "2") 131)) no_term no_sum)
      (leaf (codes ")") 132)) (term over (leaf (codes "/") 134) (compare greatest (leaf (codes "max") 136) (leaf (codes "(") 139) (expr
      (forms.FactorForm.number (number 3 (codes "3") 140)) no_term no_sum) (leaf (codes ",") 141) (expr (forms.FactorForm.number (number 4
      (codes "4") 143)) no_term (sum minus (leaf (codes "-") 145) (forms.FactorForm.number (number 5 (codes "5") 147)) no_term (sum minus
      (leaf (codes "-") 149) (forms.FactorForm.number (number 6 (codes "6") 151)) no_term no_sum))) (leaf (codes ")") 152)) no_term)
      no_sum) (leaf (codes ")") 153)) (leaf (codes ";") 154))) (entry (plays (set (leaf (codes "set") 156) 7 (leaf (codes "r7") 160) (leaf
      (codes "=") 163) (expr (negate (leaf (codes "-") 165) (compare below (leaf (codes "less") 166) (leaf (codes "(") 170) (expr
      (forms.FactorForm.number (number 1 (codes "1") 171)) no_term no_sum) (leaf (codes ",") 172) (expr (forms.FactorForm.number (number 2
      (codes "2") 174)) no_term (sum plus (leaf (codes "+") 176) (forms.FactorForm.number (number 3 (codes "3") 178)) (term times (leaf
      (codes "*") 180) (forms.FactorForm.number (number 4 (codes "4") 182)) no_term) no_sum)) (leaf (codes ")") 183))) no_term no_sum)
      (leaf (codes ";") 185))) no_entry)))));
}

abbrev values_score : Score
values_score = record {
  version = (value 2 9);
  division = None;
  seed = None;
  entries = tree.plays (at_column 12) (tree.note ((tree.named 58 (at_column 17)) ∷ (tree.keyed (tree.literal (negsuc 0) (at_column 26))
      (at_column 22)) ∷ (tree.keyed (tree.Amount.computed (postfix (nodes.Literal 60 ∷ nodes.Index 0 ∷ nodes.Literal 2 ∷ nodes.Multiply ∷
      nodes.Register 1 ∷ nodes.Subtract ∷ nodes.Pick ∷ nodes.Add ∷ []) (place 35 ∷ place 45 ∷ place 50 ∷ place 48 ∷ place 54 ∷ place 52 ∷
      place 40 ∷ place 38 ∷ []))) (at_column 30)) ∷ []) (tree.Duration.computed (postfix (nodes.Literal 1 ∷ nodes.Index 15 ∷ nodes.Same ∷
      nodes.Literal 3 ∷ nodes.Remain ∷ []) (place 71 ∷ place 74 ∷ place 66 ∷ place 81 ∷ place 79 ∷ [])) (value 9 88))) ∷ tree.plays
      (at_column 91) (tree.control (value 7 99) (tree.literal (pos 100) (at_column 101))) ∷ tree.plays (at_column 106) (tree.program
      (tree.literal (negsuc 4) (at_column 114))) ∷ tree.plays (at_column 118) (tree.bend (tree.Amount.computed (postfix (nodes.Literal 1 ∷
      nodes.Literal 2 ∷ nodes.Min ∷ nodes.Literal 3 ∷ nodes.Literal 4 ∷ nodes.Literal 5 ∷ nodes.Subtract ∷ nodes.Literal 6 ∷
      nodes.Subtract ∷ nodes.Max ∷ nodes.Divide ∷ []) (place 128 ∷ place 131 ∷ place 124 ∷ place 140 ∷ place 143 ∷ place 147 ∷ place 145 ∷
      place 151 ∷ place 149 ∷ place 136 ∷ place 134 ∷ [])))) ∷ tree.plays (at_column 156) (tree.set 7 (postfix (nodes.Literal 1 ∷
      nodes.Literal 2 ∷ nodes.Literal 3 ∷ nodes.Literal 4 ∷ nodes.Multiply ∷ nodes.Add ∷ nodes.Less ∷ nodes.Negate ∷ []) (place 171 ∷
      place 174 ∷ place 178 ∷ place 182 ∷ place 180 ∷ place 176 ∷ place 166 ∷ place 165 ∷ []))) ∷ [];
}

values : Reads limits (tokens values_text) values_score
unfolding walk
values = record { form = values_form; text = refl; within = search rules; head = tt; stands_for = refl }

abbrev blocks_text : List ℕ
blocks_text =
    codes "formula 1; if n0 { rest 1/4; } else { skip; } if 1 { } repeat 2 { } repeat (r0) max 3 { skip; } par { branch { "
    ++ codes "} branch { rest 1/2; } } channel 15 { volume 64 { gate 90 { } } } rhythm [1/4, ticks 5] { } artic [50, 100] { "
    ++ codes "} loud [1] { }"

abbrev blocks_form : ScoreForm
blocks_form = record {
  word = (leaf (codes "formula") 1);
  version = (number 1 (codes "1") 9);
  ends = (leaf (codes ";") 10);
  divided = no_division;
  seeded = no_seed;
  last = (leaf [] 236);
  entries = (entry (plays (choice (leaf (codes "if") 12) (expr (index 0 (leaf (codes "n0") 15)) no_term no_sum) (block (leaf (codes "{")
      18) (stmt (rest (leaf (codes "rest") 20) (fixed (share (number 1 (codes "1") 25) (leaf (codes "/") 26) (number 4 (codes "4") 27)))
      (leaf (codes ";") 28)) no_stmt) (leaf (codes "}") 30)) (otherwise (leaf (codes "else") 32) (block (leaf (codes "{") 37) (stmt (skip
      (leaf (codes "skip") 39) (leaf (codes ";") 43)) no_stmt) (leaf (codes "}") 45))))) (entry (plays (choice (leaf (codes "if") 47)
      (expr (forms.FactorForm.number (number 1 (codes "1") 50)) no_term no_sum) (block (leaf (codes "{") 52) no_stmt (leaf (codes "}")
      54)) no_else)) (entry (plays (repeat (leaf (codes "repeat") 56) (number 2 (codes "2") 63) (block (leaf (codes "{") 65) no_stmt (leaf
      (codes "}") 67)))) (entry (plays (again (leaf (codes "repeat") 69) (leaf (codes "(") 76) (expr (register 0 (leaf (codes "r0") 77))
      no_term no_sum) (leaf (codes ")") 79) (leaf (codes "max") 81) (number 3 (codes "3") 85) (block (leaf (codes "{") 87) (stmt (skip
      (leaf (codes "skip") 89) (leaf (codes ";") 93)) no_stmt) (leaf (codes "}") 95)))) (entry (plays (par (leaf (codes "par") 97) (leaf
      (codes "{") 101) (leaf (codes "branch") 103) (block (leaf (codes "{") 110) no_stmt (leaf (codes "}") 112)) (branch (leaf (codes
      "branch") 114) (block (leaf (codes "{") 121) (stmt (rest (leaf (codes "rest") 123) (fixed (share (number 1 (codes "1") 128) (leaf
      (codes "/") 129) (number 2 (codes "2") 130))) (leaf (codes ";") 131)) no_stmt) (leaf (codes "}") 133)) no_branch) (leaf (codes "}")
      135))) (entry (plays (scope channel (leaf (codes "channel") 137) (number 15 (codes "15") 145) (block (leaf (codes "{") 148) (stmt
      (scope volume (leaf (codes "volume") 150) (number 64 (codes "64") 157) (block (leaf (codes "{") 160) (stmt (scope gate (leaf
      (codes "gate") 162) (number 90 (codes "90") 167) (block (leaf (codes "{") 170) no_stmt (leaf (codes "}") 172))) no_stmt) (leaf
      (codes "}") 174))) no_stmt) (leaf (codes "}") 176)))) (entry (plays (rhythm (leaf (codes "rhythm") 178) (leaf (codes "[") 185)
      (listed (share (number 1 (codes "1") 186) (leaf (codes "/") 187) (number 4 (codes "4") 188)) (more (leaf (codes ",") 189) (ticks
      (leaf (codes "ticks") 191) (number 5 (codes "5") 197)) no_more)) (leaf (codes "]") 198) (block (leaf (codes "{") 200) no_stmt (leaf
      (codes "}") 202)))) (entry (plays (cycling artic (leaf (codes "artic") 204) (leaf (codes "[") 210) (listed (number 50 (codes "50")
      211) (more (leaf (codes ",") 213) (number 100 (codes "100") 215) no_more)) (leaf (codes "]") 218) (block (leaf (codes "{") 220)
      no_stmt (leaf (codes "}") 222)))) (entry (plays (cycling loud (leaf (codes "loud") 224) (leaf (codes "[") 229) (listed (number 1
      (codes "1") 230) no_more) (leaf (codes "]") 231) (block (leaf (codes "{") 233) no_stmt (leaf (codes "}") 235)))) no_entry)))))))));
}

abbrev blocks_score : Score
blocks_score = record {
  version = (value 1 9);
  division = None;
  seed = None;
  entries = tree.plays (at_column 12) (tree.choice (postfix (nodes.Index 0 ∷ []) (place 15 ∷ [])) (tree.then (at_column 20) (tree.rest
      (tree.fixed (Share (value 1 25) (value 4 27)))) tree.done) (tree.then (at_column 39) tree.skip tree.done)) ∷ tree.plays (at_column
      47) (tree.choice (postfix (nodes.Literal 1 ∷ []) (place 50 ∷ [])) tree.done tree.done) ∷ tree.plays (at_column 56) (tree.repeat
      (value 2 63) tree.done) ∷ tree.plays (at_column 69) (tree.again (postfix (nodes.Register 0 ∷ []) (place 77 ∷ [])) (value 3 85)
      (tree.then (at_column 89) tree.skip tree.done)) ∷ tree.plays (at_column 97) (tree.par (tree.branch tree.done (tree.branch (tree.then
      (at_column 123) (tree.rest (tree.fixed (Share (value 1 128) (value 2 130)))) tree.done) tree.none))) ∷ tree.plays (at_column 137)
      (tree.channel (value 15 145) (tree.then (at_column 150) (tree.volume (value 64 157) (tree.then (at_column 162) (tree.gate (value 90
      167) tree.done) tree.done)) tree.done)) ∷ tree.plays (at_column 178) (tree.rhythm ((Share (value 1 186) (value 4 188)) ∷ (Ticks
      (value 5 197)) ∷ []) tree.done) ∷ tree.plays (at_column 204) (tree.artic ((value 50 211) ∷ (value 100 215) ∷ []) tree.done) ∷
      tree.plays (at_column 224) (tree.loud ((value 1 230) ∷ []) tree.done) ∷ [];
}

blocks : Reads limits (tokens blocks_text) blocks_score
unfolding walk
blocks = record { form = blocks_form; text = refl; within = search rules; head = tt; stands_for = refl }

abbrev divided_text : List ℕ
divided_text = codes "formula 02; division 96; shape division = pause 1/8;"

abbrev divided_form : ScoreForm
divided_form = record {
  word = (leaf (codes "formula") 1);
  version = (number 2 (codes "02") 9);
  ends = (leaf (codes ";") 11);
  divided = (division (leaf (codes "division") 13) (number 96 (codes "96") 22) (leaf (codes ";") 24));
  seeded = no_seed;
  last = (leaf [] 53);
  entries = entry (shape (leaf (codes "shape") 26) (leaf (codes "division") 32) (leaf (codes "=") 41)
      (listed (pause (leaf (codes "pause") 43) (share (number 1 (codes "1") 49) (leaf (codes "/") 50) (number 8 (codes "8") 51))) no_more)
      (leaf (codes ";") 52)) no_entry;
}

abbrev divided_score : Score
divided_score = record {
  version = (value 2 9);
  division = (Some (value 96 22));
  seed = None;
  entries = tree.shape (leaf (codes "division") 32) ((Pause (Share (value 1 49) (value 8 51))) ∷ []) ∷ [];
}

-- a division stands behind version 2, by its value, and its word is a name elsewhere
divided : Reads limits (tokens divided_text) divided_score
unfolding walk
divided = record { form = divided_form; text = refl; within = search rules; head = (refl, refl); stands_for = refl }
