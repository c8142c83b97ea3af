-- What an excerpt has set at a tick is what the whole has set there.
use Rattle.std.proofs.Common.{◌≡◌, ℕ, zero, suc, ◌-◌, ◌<◌, ◌≤◌, Bool, true, false, ◌&&◌, cond, nat_le, nat_lt, max, List, [], ◌∷◌, ◌++◌, map, replicate, Option, Some, None, refl, sym, ◌∙◌, ap, arith}
use Rattle.std.proofs.lemmas.Bool.Decides.{nat_tests}
use Rattle.fm_msg.specs.declared.msg.Msg.{Msg}
use Rattle.fm_msg.specs.declared.msg.Msg.TheVariants.{On, Off, Control, Program, Bend}
use Rattle.fm_msg.specs.declared.msg.TheConstants.{CHANNELS, DATA_VALUES}
use Rattle.fm_msg.specs.Event.{TimedMessage}
use Rattle.fm_smf.specs.Track.{NeverFalls}
use Rattle.fm_read.specs.Written.{as_message}
use Rattle.fm_excerpt.specs.Last.{or_else, last_value, program_of, bend_of, control_of}
use Rattle.fm_excerpt.specs.Values.{up_to}
use Rattle.fm_excerpt.specs.Excerpt.{before, state, sounding, keeps, is_inside, window, window_of, start_of, closing, message_at, at_tick, excerpt, excerpt_end}
use Rattle.fm_excerpt.proofs.InsideLemmas.{window_kept, window_left, window_none, inside_begin}
use Rattle.fm_excerpt.proofs.StateLemmas.{or_else_assoc}
use Rattle.fm_excerpt.proofs.StateValues.{or_none, last_append, none_below, state_program, state_bend, state_control}

-- ---- note-offs set nothing

offs_silent : (f : Msg → Option ℕ) (m : Msg) (n : ℕ) → f m ≡ None → last_value f (replicate n m) ≡ None
offs_silent f m zero none = refl
offs_silent f m (suc n) none = ap (λ z. or_else z (f m)) (offs_silent f m n none) ∙ none

closing_silent : (f : Msg → Option ℕ) (kept : List Msg) → ((c k : ℕ) → f (Off c k) ≡ None) → last_value f (closing kept) ≡ None
unfolding closing
closing_silent f kept none =
    none_below f _ CHANNELS (λ c less. none_below f _ DATA_VALUES (λ k low.
    offs_silent f (Off c k) (sounding c k kept) (none c k)))

-- ---- up to a tick

up_to_append : (t : ℕ) (xs ys : List (ℕ × Msg)) → up_to t (xs ++ ys) ≡ up_to t xs ++ up_to t ys
up_to_append t [] ys = refl
up_to_append t (x ∷ xs) ys = by_test (nat_le x.0 t)
    (up_to_append t xs ys)
  where
    by_test : (b : Bool) → up_to t (xs ++ ys) ≡ up_to t xs ++ up_to t ys →
        cond b (x.1 ∷ []) [] ++ up_to t (xs ++ ys) ≡ (cond b (x.1 ∷ []) [] ++ up_to t xs) ++ up_to t ys
    by_test true more = ap (λ z. x.1 ∷ z) more
    by_test false more = more

-- all messages at a tick that has come
up_to_come : (t s : ℕ) (ms : List Msg) → nat_le s t ≡ true → up_to t (at_tick s ms) ≡ ms
up_to_come t s [] is = refl
up_to_come t s (m ∷ ms) is = rw is (ap (λ z. m ∷ z) (up_to_come t s ms is))

-- and none at one that has not
up_to_later : (t s : ℕ) (ms : List Msg) → nat_le s t ≡ false → up_to t (at_tick s ms) ≡ []
up_to_later t s [] is = refl
up_to_later t s (m ∷ ms) is = rw is (up_to_later t s ms is)

silent_tick : (f : Msg → Option ℕ) (t s : ℕ) (ms : List Msg) → last_value f ms ≡ None → last_value f (up_to t (at_tick s ms)) ≡ None
silent_tick f t s ms none = by_test (nat_le s t) refl
  where
    by_test : (b : Bool) → nat_le s t ≡ b → last_value f (up_to t (at_tick s ms)) ≡ None
    by_test true is = ap (last_value f) (up_to_come t s ms is) ∙ none
    by_test false is = ap (last_value f) (up_to_later t s ms is)

-- ---- the window

-- the messages from a tick to a tick
abbrev between : ℕ → ℕ → List (ℕ × Msg) → List Msg
between begin t [] = []
between begin t (x ∷ xs) = cond (nat_le begin x.0 && nat_le x.0 t) (x.1 ∷ []) [] ++ between begin t xs

-- a tick that is not in the window is before it, or not yet there
outside : (begin : ℕ) (until : Option ℕ) (t x : ℕ) → is_inside begin until t ≡ true → is_inside begin until x ≡ false →
    (nat_le begin x && nat_le x t) ≡ false
outside begin None t x there is = ap (λ a. a && nat_le x t) is
outside begin (Some until) t x there is =
    by_tests (nat_le begin x) (nat_lt x (max begin until)) (nat_le x t) refl refl refl is (last (nat_le begin t) there)
  where
    last : (a : Bool) → (a && nat_lt t (max begin until)) ≡ true → t < max begin until
    last true e = grind (arith, nat_tests)
    last false e = absurd cc

    by_tests : (a b d : Bool) → nat_le begin x ≡ a → nat_lt x (max begin until) ≡ b → nat_le x t ≡ d → (a && b) ≡ false →
        t < max begin until → (a && d) ≡ false
    by_tests true true d p q r e less = absurd cc
    by_tests true false true p q r e less = absurd (grind (arith, nat_tests))
    by_tests true false false p q r e less = refl
    by_tests false b d p q r e less = refl

-- what the window leaves out sets nothing
left_silent : (f : Msg → Option ℕ) (kept : List Msg) (m : Msg) → ((c k : ℕ) → f (Off c k) ≡ None) → keeps kept m ≡ false → f m ≡ None
left_silent f kept (On channel key velocity) none is = absurd cc
left_silent f kept (Off channel key) none is = none channel key
left_silent f kept (Control channel controller value) none is = absurd cc
left_silent f kept (Program channel program) none is = absurd cc
left_silent f kept (Bend channel bend) none is = absurd cc

-- a message in front
first_value : (f : Msg → Option ℕ) (b : Bool) (m : Msg) (ms : List Msg) →
    last_value f (cond b (m ∷ []) [] ++ ms) ≡ or_else (last_value f ms) (cond b (f m) None)
first_value f true m ms = refl
first_value f false m ms = sym (or_none (last_value f ms))

window_value : (f : Msg → Option ℕ) (begin : ℕ) (until : Option ℕ) (start t : ℕ) (kept : List Msg) (list : List (ℕ × Msg)) →
    ((c k : ℕ) → f (Off c k) ≡ None) → start ≤ begin → is_inside begin until t ≡ true →
    last_value f (up_to (t - start) (window begin until start kept list)) ≡ last_value f (between begin t list)
window_value f begin until start t kept [] none le there =
    ap (λ z. last_value f (up_to (t - start) z)) (window_none begin until start kept)
window_value f begin until start t kept (x ∷ xs) none le there =
    by_tests (λ next. window_value f begin until start t next xs none le there) (is_inside begin until x.0) (keeps kept x.1) refl refl
    ∙ sym (first_value f (nat_le begin x.0 && nat_le x.0 t) x.1 (between begin t xs))
  where
    from : begin ≤ t
    from = inside_begin begin until t there

    by_tests : ((next : List Msg) →
        last_value f (up_to (t - start) (window begin until start next xs)) ≡ last_value f (between begin t xs)) →
        (a b : Bool) → is_inside begin until x.0 ≡ a → keeps kept x.1 ≡ b →
        last_value f (up_to (t - start) (window begin until start kept (x ∷ xs)))
        ≡ or_else (last_value f (between begin t xs)) (cond (nat_le begin x.0 && nat_le x.0 t) (f x.1) None)
    by_tests more true true p q =
        let in_window : begin ≤ x.0 = inside_begin begin until x.0 p in
        let has_begun : nat_le begin x.0 ≡ true = grind (arith, nat_tests) in
        let same : nat_le (x.0 - start) (t - start) ≡ (nat_le begin x.0 && nat_le x.0 t) = rw has_begun (grind (arith, nat_tests)) in
        ap (λ z. last_value f (up_to (t - start) z)) (window_kept begin until start kept x.0 x.1 xs (rw (p, q) refl))
        ∙ first_value f (nat_le (x.0 - start) (t - start)) x.1 _
        ∙ ap (λ z. or_else z (cond (nat_le (x.0 - start) (t - start)) (f x.1) None)) (more (kept ++ x.1 ∷ []))
        ∙ ap (λ b. or_else (last_value f (between begin t xs)) (cond b (f x.1) None)) same
    by_tests more true false p q =
        ap (λ z. last_value f (up_to (t - start) z)) (window_left begin until start kept x.0 x.1 xs (rw (p, q) refl))
        ∙ more kept ∙ sym (ap (or_else (last_value f (between begin t xs))) (no_more (nat_le begin x.0 && nat_le x.0 t))
        ∙ or_none (last_value f (between begin t xs)))
      where
        no_more : (b : Bool) → cond b (f x.1) None ≡ None
        no_more true = left_silent f kept x.1 none q
        no_more false = refl
    by_tests more false b p q =
        ap (λ z. last_value f (up_to (t - start) z)) (window_left begin until start kept x.0 x.1 xs (rw p refl))
        ∙ more kept ∙ sym (ap (λ a. or_else (last_value f (between begin t xs)) (cond a (f x.1) None))
        (outside begin until t x.0 there p) ∙ or_none (last_value f (between begin t xs)))

-- ---- the whole

-- behind a tick nothing is before it
none_before : (begin last : ℕ) (events : List TimedMessage) → begin ≤ last → NeverFalls last events →
    before begin (map as_message events) ≡ []
none_before begin last [] le rise = refl
none_before begin last (e ∷ es) le rise =
    let late : nat_lt e.time begin ≡ false = let at : begin ≤ e.time = omega (arith, rise.0) in grind (arith, nat_tests) in
    rw late (none_before begin e.time es (omega (arith, rise.0)) rise.1)

-- and all is from it on
all_between : (begin t last : ℕ) (events : List TimedMessage) → begin ≤ last → NeverFalls last events →
    between begin t (map as_message events) ≡ up_to t (map as_message events)
all_between begin t last [] le rise = refl
all_between begin t last (e ∷ es) le rise =
    let late : nat_le begin e.time ≡ true = let at : begin ≤ e.time = omega (arith, rise.0) in grind (arith, nat_tests) in
    rw late (ap (λ z. cond (nat_le e.time t) (e.msg ∷ []) [] ++ z) (all_between begin t e.time es (omega (arith, rise.0)) rise.1))

-- what holds at a tick was set from a tick before it on, or before that
whole_value : (f : Msg → Option ℕ) (begin t last : ℕ) (events : List TimedMessage) → begin ≤ t → NeverFalls last events →
    last_value f (up_to t (map as_message events))
    ≡ or_else (last_value f (between begin t (map as_message events))) (last_value f (before begin (map as_message events)))
whole_value f begin t last [] le rise = refl
whole_value f begin t last (e ∷ es) le rise =
    by_test (λ _. whole_value f begin t e.time es le rise.1) (nat_lt e.time begin) refl
  where
    list : List (ℕ × Msg)
    list = map as_message es

    by_test : ((Unit {0}) →
        last_value f (up_to t list) ≡ or_else (last_value f (between begin t list)) (last_value f (before begin list))) →
        (b : Bool) → nat_lt e.time begin ≡ b →
        last_value f (up_to t (as_message e ∷ list))
        ≡ or_else (last_value f (between begin t (as_message e ∷ list))) (last_value f (before begin (as_message e ∷ list)))
    by_test more true is =
        let early : nat_le begin e.time ≡ false = grind (arith, nat_tests) in
        let come : nat_le e.time t ≡ true = grind (arith, nat_tests) in
        rw (is, early, come)
        (ap (λ z. or_else z (f e.msg)) (more tt) ∙ or_else_assoc (last_value f (between begin t list)) _ (f e.msg))
    by_test more false is =
        let there : begin ≤ e.time = grind (arith, nat_tests) in
        let nothing : before begin (as_message e ∷ list) ≡ [] = rw is (none_before begin e.time es there rise.1) in
        let all : between begin t (as_message e ∷ list) ≡ up_to t (as_message e ∷ list) =
        all_between begin t e.time (e ∷ es) there (omega arith, rise.1) in
        rw (nothing, all) (sym (or_none _))

-- ---- an excerpt

same_value : (f : Msg → Option ℕ) (begin : ℕ) (until : Option ℕ) (t : ℕ) (events : List TimedMessage) (end : ℕ) →
    ((c k : ℕ) → f (Off c k) ≡ None) → ((ms : List Msg) → last_value f (state ms) ≡ last_value f ms) →
    is_inside begin until t ≡ true → NeverFalls 0 events →
    last_value f (up_to (t - start_of begin end) (excerpt begin until (map as_message events) end))
    ≡ last_value f (up_to t (map as_message events))
unfolding excerpt
same_value f begin until t events end none stated there rise =
    ap (last_value f) (up_to_append s (at_tick 0 first ++ middle) last)
    ∙ last_append f (up_to s (at_tick 0 first ++ middle)) (up_to s last)
    ∙ ap (λ z. or_else z (last_value f (up_to s (at_tick 0 first ++ middle))))
    (silent_tick f s (excerpt_end begin until end) (closing (map message_at middle)) (closing_silent f (map message_at middle) none))
    ∙ ap (last_value f) (up_to_append s (at_tick 0 first) middle)
    ∙ last_append f (up_to s (at_tick 0 first)) (up_to s middle)
    ∙ ap (λ z. or_else z (last_value f (up_to s (at_tick 0 first))))
    (window_value f begin until (start_of begin end) t [] list none (omega arith) there)
    ∙ ap (λ z. or_else (last_value f (between begin t list)) (last_value f z)) (up_to_come s 0 first (grind (arith, nat_tests)))
    ∙ ap (or_else (last_value f (between begin t list))) (stated (before begin list))
    ∙ sym (whole_value f begin t 0 events (inside_begin begin until t there) rise)
  where
    s : ℕ
    s = t - start_of begin end

    list : List (ℕ × Msg)
    list = map as_message events

    first : List Msg
    first = state (before begin list)

    middle : List (ℕ × Msg)
    middle = window_of begin until list end

    last : List (ℕ × Msg)
    last = at_tick (excerpt_end begin until end) (closing (map message_at middle))

-- the program, the controllers and the bend of a channel
pub same_program : (c begin t : ℕ) (until : Option ℕ) (events : List TimedMessage) (end : ℕ) → c < CHANNELS →
    is_inside begin until t ≡ true → NeverFalls 0 events →
    last_value (program_of c) (up_to (t - start_of begin end) (excerpt begin until (map as_message events) end))
    ≡ last_value (program_of c) (up_to t (map as_message events))
same_program c begin t until events end less there rise =
    same_value (program_of c) begin until t events end (λ c k. refl) (λ ms. state_program c ms less) there rise

pub same_control : (c k begin t : ℕ) (until : Option ℕ) (events : List TimedMessage) (end : ℕ) → c < CHANNELS → k < DATA_VALUES →
    is_inside begin until t ≡ true → NeverFalls 0 events →
    last_value (control_of c k) (up_to (t - start_of begin end) (excerpt begin until (map as_message events) end))
    ≡ last_value (control_of c k) (up_to t (map as_message events))
same_control c k begin t until events end less low there rise =
    same_value (control_of c k) begin until t events end (λ c k. refl) (λ ms. state_control c k ms less low) there rise

pub same_bend : (c begin t : ℕ) (until : Option ℕ) (events : List TimedMessage) (end : ℕ) → c < CHANNELS →
    is_inside begin until t ≡ true → NeverFalls 0 events →
    last_value (bend_of c) (up_to (t - start_of begin end) (excerpt begin until (map as_message events) end))
    ≡ last_value (bend_of c) (up_to t (map as_message events))
same_bend c begin t until events end less there rise =
    same_value (bend_of c) begin until t events end (λ c k. refl) (λ ms. state_bend c ms less) there rise
