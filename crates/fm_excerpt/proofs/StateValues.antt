-- What the state of the channels has set is what the messages before it have set.
use Rattle.std.proofs.Common.{◌≡◌, ℕ, zero, suc, ◌<◌, Bool, true, false, ◌&&◌, cond, nat_eq, List, [], ◌∷◌, ◌++◌, Option, Some, None, refl, sym, ◌∙◌, ap, arith}
use Rattle.std.specs.List.{flat_map}
use Rattle.std.specs.Option.{option_map, option_to_list}
use Rattle.std.proofs.lemmas.Bool.Decides.{nat_tests}
use Rattle.fm_msg.specs.declared.msg.Msg.{Msg}
use Rattle.fm_msg.specs.declared.msg.Msg.TheVariants.{Control, Program, Bend}
use Rattle.fm_msg.specs.declared.msg.TheConstants.{CHANNELS, DATA_VALUES}
use Rattle.fm_excerpt.specs.Last.{or_else, last_value, program_of, bend_of, control_of}
use Rattle.fm_excerpt.specs.Excerpt.{below, channel_state, state}
use Rattle.fm_excerpt.proofs.Below.{below_none, below_suc}
use Rattle.fm_excerpt.proofs.StateLemmas.{or_else_assoc}

pub or_none : {A : Type 0} (x : Option A) → or_else x None ≡ x
or_none (Some x) = refl
or_none None = refl

-- the last value of one list behind another
pub last_append : {A : Type 0} (f : Msg → Option A) (xs ys : List Msg) →
    last_value f (xs ++ ys) ≡ or_else (last_value f ys) (last_value f xs)
last_append f [] ys = sym (or_none (last_value f ys))
last_append f (x ∷ xs) ys =
    ap (λ z. or_else z (f x)) (last_append f xs ys) ∙ or_else_assoc (last_value f ys) (last_value f xs) (f x)

-- ---- the state

-- lists over the numbers below another, none of which has a value
pub none_below : (f : Msg → Option ℕ) (g : ℕ → List Msg) (n : ℕ) → ((i : ℕ) → i < n → last_value f (g i) ≡ None) →
    last_value f (flat_map g (below n)) ≡ None
none_below f g zero none = ap (last_value f) (below_none g)
none_below f g (suc n) none =
    ap (last_value f) (below_suc g n) ∙ last_append f (flat_map g (below n)) (g n)
    ∙ ap (λ z. or_else z (last_value f (flat_map g (below n)))) (none n (omega arith))
    ∙ none_below f g n (λ i less. none i (omega arith))

-- and of which only one has
one_below : (f : Msg → Option ℕ) (g : ℕ → List Msg) (n c : ℕ) → c < n →
    ((i : ℕ) → i < n → nat_eq i c ≡ false → last_value f (g i) ≡ None) → last_value f (flat_map g (below n)) ≡ last_value f (g c)
one_below f g zero c less none = absurd (omega arith)
one_below f g (suc n) c less none =
    ap (last_value f) (below_suc g n) ∙ last_append f (flat_map g (below n)) (g n)
    ∙ by_last (λ here. one_below f g n c here (λ i small other. none i (omega arith) other)) (nat_eq n c) refl
  where
    by_last : (c < n → last_value f (flat_map g (below n)) ≡ last_value f (g c)) → (b : Bool) → nat_eq n c ≡ b →
        or_else (last_value f (g n)) (last_value f (flat_map g (below n))) ≡ last_value f (g c)
    by_last more true is =
        let same : n ≡ c = grind (arith, nat_tests) in
        ap (or_else (last_value f (g n)))
        (none_below f g n (λ i small. none i (omega arith) (let differs : i < c = omega arith in grind (arith, nat_tests))))
        ∙ or_none (last_value f (g n)) ∙ ap (λ i. last_value f (g i)) same
    by_last more false is =
        let small : c < n = grind (arith, nat_tests) in
        ap (λ z. or_else z (last_value f (flat_map g (below n)))) (none n (omega arith) is) ∙ more small

-- a message made of a value that has none of another kind
no_value : (f : Msg → Option ℕ) (make : ℕ → Msg) (o : Option ℕ) → ((v : ℕ) → f (make v) ≡ None) →
    last_value f (option_to_list (option_map make o)) ≡ None
no_value f make None none = refl
no_value f make (Some v) none = none v

-- and one that gives the value back
own_value : (f : Msg → Option ℕ) (make : ℕ → Msg) (o : Option ℕ) → ((v : ℕ) → f (make v) ≡ Some v) →
    last_value f (option_to_list (option_map make o)) ≡ o
own_value f make None own = refl
own_value f make (Some v) own = own v

-- the controllers of a channel
abbrev controls_of : ℕ → List Msg → List Msg
controls_of c ms = flat_map (λ k. option_to_list (option_map (Control c k) (last_value (control_of c k) ms))) (below DATA_VALUES)

abbrev programs_of : ℕ → List Msg → List Msg
programs_of c ms = option_to_list (option_map (Program c) (last_value (program_of c) ms))

abbrev bends_of : ℕ → List Msg → List Msg
bends_of c ms = option_to_list (option_map (Bend c) (last_value (bend_of c) ms))

-- the last value of a channel's beginning, part by part
by_parts : (f : Msg → Option ℕ) (c : ℕ) (ms : List Msg) → last_value f (channel_state c ms)
    ≡ or_else (last_value f (bends_of c ms)) (or_else (last_value f (controls_of c ms)) (last_value f (programs_of c ms)))
unfolding channel_state
by_parts f c ms =
    last_append f (programs_of c ms ++ controls_of c ms) (bends_of c ms)
    ∙ ap (or_else (last_value f (bends_of c ms))) (last_append f (programs_of c ms) (controls_of c ms))

-- no value of these kinds is set on a channel
record Silent (f : Msg → Option ℕ) (c : ℕ) : Type 0 where
  program : (v : ℕ) → f (Program c v) ≡ None
  control : (k v : ℕ) → f (Control c k v) ≡ None
  bend : (v : ℕ) → f (Bend c v) ≡ None

silent_channel : (f : Msg → Option ℕ) (c : ℕ) (ms : List Msg) → Silent f c → last_value f (channel_state c ms) ≡ None
silent_channel f c ms none =
    by_parts f c ms
    ∙ ap (λ z. or_else z (or_else (last_value f (controls_of c ms)) (last_value f (programs_of c ms))))
    (no_value f (Bend c) (last_value (bend_of c) ms) none.bend)
    ∙ ap (λ z. or_else z (last_value f (programs_of c ms)))
    (none_below f _ DATA_VALUES (λ k less. no_value f (Control c k) (last_value (control_of c k) ms) (none.control k)))
    ∙ no_value f (Program c) (last_value (program_of c) ms) none.program

-- the state has the last value of each kind
pub state_program : (c : ℕ) (ms : List Msg) → c < CHANNELS → last_value (program_of c) (state ms) ≡ last_value (program_of c) ms
unfolding state
state_program c ms less =
    one_below f (λ i. channel_state i ms) CHANNELS c less (λ i small other. silent_channel f i ms (record {
      program = λ v. ap (λ b. cond b (Some v) None) other;
      control = λ k v. refl;
      bend = λ v. refl;
    }))
    ∙ by_parts f c ms
    ∙ ap (λ z. or_else z (or_else (last_value f (controls_of c ms)) (last_value f (programs_of c ms))))
    (no_value f (Bend c) (last_value (bend_of c) ms) (λ v. refl))
    ∙ ap (λ z. or_else z (last_value f (programs_of c ms)))
    (none_below f _ DATA_VALUES (λ k small. no_value f (Control c k) (last_value (control_of c k) ms) (λ v. refl)))
    ∙ own_value f (Program c) (last_value (program_of c) ms) (λ v. ap (λ b. cond b (Some v) None) same)
  where
    f : Msg → Option ℕ
    f = program_of c

    same : nat_eq c c ≡ true
    same = grind (arith, nat_tests)

pub state_bend : (c : ℕ) (ms : List Msg) → c < CHANNELS → last_value (bend_of c) (state ms) ≡ last_value (bend_of c) ms
unfolding state
state_bend c ms less =
    one_below f (λ i. channel_state i ms) CHANNELS c less (λ i small other. silent_channel f i ms (record {
      program = λ v. refl;
      control = λ k v. refl;
      bend = λ v. ap (λ b. cond b (Some v) None) other;
    }))
    ∙ by_parts f c ms
    ∙ ap (or_else (last_value f (bends_of c ms)))
    (ap (λ z. or_else z (last_value f (programs_of c ms)))
    (none_below f _ DATA_VALUES (λ k small. no_value f (Control c k) (last_value (control_of c k) ms) (λ v. refl)))
    ∙ no_value f (Program c) (last_value (program_of c) ms) (λ v. refl))
    ∙ or_none (last_value f (bends_of c ms))
    ∙ own_value f (Bend c) (last_value (bend_of c) ms) (λ v. ap (λ b. cond b (Some v) None) same)
  where
    f : Msg → Option ℕ
    f = bend_of c

    same : nat_eq c c ≡ true
    same = grind (arith, nat_tests)

both_false : (a b : Bool) → a ≡ false → (a && b) ≡ false
both_false a b is = rw is refl

second_false : (a b : Bool) → b ≡ false → (a && b) ≡ false
second_false true b is = is
second_false false b is = refl

pub state_control : (c k : ℕ) (ms : List Msg) → c < CHANNELS → k < DATA_VALUES →
    last_value (control_of c k) (state ms) ≡ last_value (control_of c k) ms
unfolding state
state_control c k ms less low =
    one_below f (λ i. channel_state i ms) CHANNELS c less (λ i small other. silent_channel f i ms (record {
      program = λ v. refl;
      control = λ j v. ap (λ b. cond b (Some v) None) (both_false (nat_eq i c) (nat_eq j k) other);
      bend = λ v. refl;
    }))
    ∙ by_parts f c ms
    ∙ ap (λ z. or_else z (or_else (last_value f (controls_of c ms)) (last_value f (programs_of c ms))))
    (no_value f (Bend c) (last_value (bend_of c) ms) (λ v. refl))
    ∙ ap (or_else (last_value f (controls_of c ms))) (no_value f (Program c) (last_value (program_of c) ms) (λ v. refl))
    ∙ or_none (last_value f (controls_of c ms))
    ∙ one_below f (λ j. option_to_list (option_map (Control c j) (last_value (control_of c j) ms))) DATA_VALUES k low
    (λ j small other. no_value f (Control c j) (last_value (control_of c j) ms)
    (λ v. ap (λ b. cond b (Some v) None) (second_false (nat_eq c c) (nat_eq j k) other)))
    ∙ own_value f (Control c k) (last_value (control_of c k) ms) (λ v. ap (λ b. cond b (Some v) None) same)
  where
    f : Msg → Option ℕ
    f = control_of c k

    same : (nat_eq c c && nat_eq k k) ≡ true
    same = grind (arith, nat_tests)
