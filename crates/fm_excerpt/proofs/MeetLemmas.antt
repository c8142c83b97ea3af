-- Windows that meet, and the note-ons of a window.
use Rattle.std.proofs.Common.{◌≡◌, ℕ, ◌+◌, ◌-◌, ◌<◌, ◌≤◌, Bool, true, false, ◌&&◌, cond, nat_lt, nat_le, max, List, [], ◌∷◌, ◌++◌, map, Option, None, Some, IfSome, refl, sym, ◌∙◌, ap, arith, append_assoc}
use Rattle.std.proofs.lemmas.List.{append-nil}
use Rattle.std.proofs.lemmas.Bool.Decides.{nat_tests}
use Rattle.fm_msg.specs.declared.msg.Msg.{Msg}
use Rattle.fm_msg.specs.declared.msg.Msg.TheVariants.{On, Off, Control, Program, Bend}
use Rattle.fm_msg.specs.Event.{TimedMessage}
use Rattle.fm_smf.specs.Track.{NeverFalls}
use Rattle.fm_read.specs.Written.{as_message}
use Rattle.fm_excerpt.specs.Excerpt.{is_inside, keeps, window, message_at}
use Rattle.fm_excerpt.specs.Notes.{begins_note, note_ons, later_by}
use Rattle.fm_excerpt.proofs.InsideLemmas.{window_kept, window_left, window_none, inside_begin, both_first}

lt_is : (a b : ℕ) → a < b → nat_lt a b ≡ true
lt_is a b less = grind (arith, nat_tests)

lt_not : (a b : ℕ) → b ≤ a → nat_lt a b ≡ false
lt_not a b le = grind (arith, nat_tests)

le_is : (a b : ℕ) → a ≤ b → nat_le a b ≡ true
le_is a b le = grind (arith, nat_tests)

le_not : (a b : ℕ) → b < a → nat_le a b ≡ false
le_not a b less = grind (arith, nat_tests)

and_true : (a : Bool) → (a && true) ≡ a
and_true true = refl
and_true false = refl

and_false : (a : Bool) → (a && false) ≡ false
and_false true = refl
and_false false = refl

-- ---- a tick and two windows that meet

-- before the tick at which they meet, the whole is the first
inside_first : (begin mid : ℕ) (until : Option ℕ) (t : ℕ) → IfSome until (λ u. mid ≤ u) → t < mid →
    is_inside begin until t ≡ is_inside begin (Some mid) t
inside_first begin mid None t far less =
    sym (ap (λ b. nat_le begin t && b) (lt_is t (max begin mid) (omega arith)) ∙ and_true (nat_le begin t))
inside_first begin mid (Some u) t far less =
    ap (λ b. nat_le begin t && b) (lt_is t (max begin u) (omega arith) ∙ sym (lt_is t (max begin mid) (omega arith)))

-- and the second has nothing
inside_not_yet : (mid : ℕ) (until : Option ℕ) (t : ℕ) → t < mid → is_inside mid until t ≡ false
inside_not_yet mid None t less = le_not mid t less
inside_not_yet mid (Some u) t less = ap (λ b. b && nat_lt t (max mid u)) (le_not mid t less)

-- from that tick on, the whole is the second
inside_second : (begin mid : ℕ) (until : Option ℕ) (t : ℕ) → begin ≤ mid → IfSome until (λ u. mid ≤ u) → mid ≤ t →
    is_inside begin until t ≡ is_inside mid until t
inside_second begin mid None t le far there = le_is begin t (omega arith) ∙ sym (le_is mid t there)
inside_second begin mid (Some u) t le far there =
    ap (λ b. b && nat_lt t (max begin u)) (le_is begin t (omega arith) ∙ sym (le_is mid t there))
    ∙ ap (λ n. nat_le mid t && nat_lt t n) {x = max begin u} {y = max mid u} (omega arith)

-- and the first has nothing
inside_no_more : (begin mid t : ℕ) → begin ≤ mid → mid ≤ t → is_inside begin (Some mid) t ≡ false
inside_no_more begin mid t le there =
    ap (λ b. nat_le begin t && b) (lt_not t (max begin mid) (omega arith)) ∙ and_false (nat_le begin t)

-- ---- windows

-- two windows are one where the same is inside of both
window_same : (begin other : ℕ) (until till : Option ℕ) (origin : ℕ) (kept : List Msg) (t : ℕ) (m : Msg) (xs : List (ℕ × Msg)) →
    is_inside begin until t ≡ is_inside other till t →
    ((next : List Msg) → window begin until origin next xs ≡ window other till origin next xs) →
    window begin until origin kept ((t, m) ∷ xs) ≡ window other till origin kept ((t, m) ∷ xs)
window_same begin other until till origin kept t m xs same rest = by_test (is_inside other till t && keeps kept m) refl
  where
    by_test : (b : Bool) → (is_inside other till t && keeps kept m) ≡ b →
        window begin until origin kept ((t, m) ∷ xs) ≡ window other till origin kept ((t, m) ∷ xs)
    by_test true is =
        window_kept begin until origin kept t m xs (ap (λ a. a && keeps kept m) same ∙ is)
        ∙ ap (λ z. (t - origin, m) ∷ z) (rest (kept ++ m ∷ [])) ∙ sym (window_kept other till origin kept t m xs is)
    by_test false is =
        window_left begin until origin kept t m xs (ap (λ a. a && keeps kept m) same ∙ is)
        ∙ rest kept ∙ sym (window_left other till origin kept t m xs is)

-- what is outside leaves the window as it is
window_outside : (begin : ℕ) (until : Option ℕ) (origin : ℕ) (kept : List Msg) (t : ℕ) (m : Msg) (xs : List (ℕ × Msg)) →
    is_inside begin until t ≡ false → window begin until origin kept ((t, m) ∷ xs) ≡ window begin until origin kept xs
window_outside begin until origin kept t m xs out =
    window_left begin until origin kept t m xs (ap (λ a. a && keeps kept m) out)

-- events from the tick on at which windows meet: the whole is the second
window_second : (begin mid : ℕ) (until : Option ℕ) (origin : ℕ) (kept : List Msg) (last : ℕ) (events : List TimedMessage) →
    begin ≤ mid → IfSome until (λ u. mid ≤ u) → mid ≤ last → NeverFalls last events →
    window begin until origin kept (map as_message events) ≡ window mid until origin kept (map as_message events)
window_second begin mid until origin kept last [] le far there rises =
    window_none begin until origin kept ∙ sym (window_none mid until origin kept)
window_second begin mid until origin kept last (e ∷ es) le far there rises =
    let later : mid ≤ e.time = omega (arith, there, rises.0) in
    window_same begin mid until until origin kept e.time e.msg (map as_message es)
    (inside_second begin mid until e.time le far later)
    (λ next. window_second begin mid until origin next e.time es le far later rises.1)

-- and the first has none of them
window_no_more : (begin mid origin : ℕ) (kept : List Msg) (last : ℕ) (events : List TimedMessage) →
    begin ≤ mid → mid ≤ last → NeverFalls last events → window begin (Some mid) origin kept (map as_message events) ≡ []
window_no_more begin mid origin kept last [] le there rises = window_none begin (Some mid) origin kept
window_no_more begin mid origin kept last (e ∷ es) le there rises =
    let later : mid ≤ e.time = omega (arith, there, rises.0) in
    window_outside begin (Some mid) origin kept e.time e.msg (map as_message es) (inside_no_more begin mid e.time le later)
    ∙ window_no_more begin mid origin kept e.time es le later rises.1

-- the whole window is the first one, and the second behind what the first has kept
pub windows_meet : (begin mid : ℕ) (until : Option ℕ) (origin : ℕ) (kept : List Msg) (last : ℕ) (events : List TimedMessage) →
    begin ≤ mid → IfSome until (λ u. mid ≤ u) → NeverFalls last events →
    window begin until origin kept (map as_message events)
    ≡ window begin (Some mid) origin kept (map as_message events)
    ++ window mid until origin (kept ++ map message_at (window begin (Some mid) origin kept (map as_message events)))
    (map as_message events)
windows_meet begin mid until origin kept last [] le far rises =
    window_none begin until origin kept
    ∙ sym (ap (λ z. z ++ window mid until origin (kept ++ map message_at z) []) (window_none begin (Some mid) origin kept)
    ∙ window_none mid until origin (kept ++ []))
windows_meet begin mid until origin kept last (e ∷ es) le far rises =
    by_time (λ next. windows_meet begin mid until origin next e.time es le far rises.1) (nat_lt e.time mid) refl
  where
    list : List (ℕ × Msg)
    list = map as_message es

    all : List (ℕ × Msg)
    all = (e.time, e.msg) ∷ list

    Meet : List Msg → List (ℕ × Msg) → Type 0
    Meet next xs =
        window begin until origin next xs
        ≡ window begin (Some mid) origin next xs
        ++ window mid until origin (next ++ map message_at (window begin (Some mid) origin next xs)) xs

    by_kept : ((next : List Msg) → Meet next list) → (b : Bool) → e.time < mid →
        (is_inside begin (Some mid) e.time && keeps kept e.msg) ≡ b → Meet kept all
    by_kept more true less is =
        let next : List Msg = kept ++ e.msg ∷ [] in
        let first : List (ℕ × Msg) = window begin (Some mid) origin next list in
        let same : is_inside begin until e.time ≡ is_inside begin (Some mid) e.time = inside_first begin mid until e.time far less in
        window_kept begin until origin kept e.time e.msg list (ap (λ a. a && keeps kept e.msg) same ∙ is)
        ∙ ap (λ z. (e.time - origin, e.msg) ∷ z) (more next)
        ∙ ap (λ z. (e.time - origin, e.msg) ∷ (first ++ window mid until origin z list)) (append_assoc kept (e.msg ∷ [])
        (map message_at first))
        ∙ ap (λ z. (e.time - origin, e.msg) ∷ (first ++ z))
        (sym (window_outside mid until origin (kept ++ e.msg ∷ map message_at first) e.time e.msg list
        (inside_not_yet mid until e.time less)))
        ∙ sym (ap (λ z. z ++ window mid until origin (kept ++ map message_at z) all)
        (window_kept begin (Some mid) origin kept e.time e.msg list is))
    by_kept more false less is =
        let first : List (ℕ × Msg) = window begin (Some mid) origin kept list in
        let same : is_inside begin until e.time ≡ is_inside begin (Some mid) e.time = inside_first begin mid until e.time far less in
        window_left begin until origin kept e.time e.msg list (ap (λ a. a && keeps kept e.msg) same ∙ is)
        ∙ more kept
        ∙ ap (λ z. first ++ z)
        (sym (window_outside mid until origin (kept ++ map message_at first) e.time e.msg list (inside_not_yet mid until e.time less)))
        ∙ sym (ap (λ z. z ++ window mid until origin (kept ++ map message_at z) all)
        (window_left begin (Some mid) origin kept e.time e.msg list is))

    by_time : ((next : List Msg) → Meet next list) → (b : Bool) → nat_lt e.time mid ≡ b → Meet kept all
    by_time more true is =
        let less : e.time < mid = grind (arith, nat_tests) in
        by_kept more (is_inside begin (Some mid) e.time && keeps kept e.msg) less refl
    by_time more false is =
        let there : mid ≤ e.time = grind (arith, nat_tests) in
        window_second begin mid until origin kept mid (e ∷ es) le far (omega arith) (there, rises.1)
        ∙ ap (λ z. window mid until origin z all) (sym (append-nil kept))
        ∙ sym (ap (λ z. z ++ window mid until origin (kept ++ map message_at z) all)
        (window_no_more begin mid origin kept mid (e ∷ es) le (omega arith) (there, rises.1)))

-- a window from another tick on
pub window_later : (begin : ℕ) (until : Option ℕ) (origin n : ℕ) (kept : List Msg) (list : List (ℕ × Msg)) → origin + n ≤ begin →
    later_by n (window begin until (origin + n) kept list) ≡ window begin until origin kept list
window_later begin until origin n kept [] le =
    ap (later_by n) (window_none begin until (origin + n) kept) ∙ sym (window_none begin until origin kept)
window_later begin until origin n kept (x ∷ xs) le =
    by_test (λ next. window_later begin until origin n next xs le) (is_inside begin until x.0 && keeps kept x.1) refl
  where
    by_test : ((next : List Msg) → later_by n (window begin until (origin + n) next xs) ≡ window begin until origin next xs) →
        (b : Bool) → (is_inside begin until x.0 && keeps kept x.1) ≡ b →
        later_by n (window begin until (origin + n) kept (x ∷ xs)) ≡ window begin until origin kept (x ∷ xs)
    by_test more true is =
        let there : begin ≤ x.0 = inside_begin begin until x.0 (both_first _ _ is) in
        ap (later_by n) (window_kept begin until (origin + n) kept x.0 x.1 xs is)
        ∙ ap (λ k. (k, x.1) ∷ later_by n (window begin until (origin + n) (kept ++ x.1 ∷ []) xs))
        {x = x.0 - (origin + n) + n} {y = x.0 - origin} (omega arith)
        ∙ ap (λ z. (x.0 - origin, x.1) ∷ z) (more (kept ++ x.1 ∷ []))
        ∙ sym (window_kept begin until origin kept x.0 x.1 xs is)
    by_test more false is =
        ap (later_by n) (window_left begin until (origin + n) kept x.0 x.1 xs is)
        ∙ more kept ∙ sym (window_left begin until origin kept x.0 x.1 xs is)

-- ---- note-ons

-- those of messages that come later come later
pub note_ons_later : (n : ℕ) (list : List (ℕ × Msg)) → note_ons (later_by n list) ≡ later_by n (note_ons list)
note_ons_later n [] = refl
note_ons_later n (x ∷ xs) = by_test (note_ons_later n xs) (begins_note x.1)
  where
    by_test : note_ons (later_by n xs) ≡ later_by n (note_ons xs) → (b : Bool) →
        cond b ((x.0 + n, x.1) ∷ note_ons (later_by n xs)) (note_ons (later_by n xs))
        ≡ later_by n (cond b (x ∷ note_ons xs) (note_ons xs))
    by_test more true = ap (λ z. (x.0 + n, x.1) ∷ z) more
    by_test more false = more

-- a window's note-ons do not depend on what was kept before
pub note_ons_same : (begin : ℕ) (until : Option ℕ) (origin : ℕ) (kept other : List Msg) (list : List (ℕ × Msg)) →
    note_ons (window begin until origin kept list) ≡ note_ons (window begin until origin other list)
note_ons_same begin until origin kept other [] =
    ap note_ons (window_none begin until origin kept ∙ sym (window_none begin until origin other))
note_ons_same begin until origin kept other ((t, m) ∷ xs) = by_message (λ a b. note_ons_same begin until origin a b xs) m
  where
    More : Type 0
    More = (a b : List Msg) → note_ons (window begin until origin a xs) ≡ note_ons (window begin until origin b xs)

    -- a message that is always kept
    always : More → (m : Msg) → keeps kept m ≡ true → keeps other m ≡ true → (b : Bool) → is_inside begin until t ≡ b →
        note_ons (window begin until origin kept ((t, m) ∷ xs)) ≡ note_ons (window begin until origin other ((t, m) ∷ xs))
    always more m one two true is =
        ap note_ons (window_kept begin until origin kept t m xs (ap (λ a. a && keeps kept m) is ∙ one))
        ∙ ap (λ z. cond (begins_note m) ((t - origin, m) ∷ z) z)
        (more (kept ++ m ∷ []) (other ++ m ∷ []))
        ∙ sym (ap note_ons (window_kept begin until origin other t m xs (ap (λ a. a && keeps other m) is ∙ two)))
    always more m one two false is =
        ap note_ons (window_outside begin until origin kept t m xs is)
        ∙ more kept other ∙ sym (ap note_ons (window_outside begin until origin other t m xs is))

    -- a message that begins no note, whether it is kept or not
    maybe : More → (m : Msg) → begins_note m ≡ false → (done next : List Msg) → (b : Bool) →
        (is_inside begin until t && keeps done m) ≡ b →
        note_ons (window begin until origin done ((t, m) ∷ xs)) ≡ note_ons (window begin until origin next xs)
    maybe more m silent done next true is =
        ap note_ons (window_kept begin until origin done t m xs is)
        ∙ ap (λ b. cond b ((t - origin, m) ∷ note_ons (window begin until origin (done ++ m ∷ []) xs))
        (note_ons (window begin until origin (done ++ m ∷ []) xs))) silent
        ∙ more (done ++ m ∷ []) next
    maybe more m silent done next false is =
        ap note_ons (window_left begin until origin done t m xs is) ∙ more done next

    by_message : More → (m : Msg) →
        note_ons (window begin until origin kept ((t, m) ∷ xs)) ≡ note_ons (window begin until origin other ((t, m) ∷ xs))
    by_message more (On channel key velocity) = always more (On channel key velocity) refl refl (is_inside begin until t) refl
    by_message more (Off channel key) =
        maybe more (Off channel key) refl kept [] _ refl ∙ sym (maybe more (Off channel key) refl other [] _ refl)
    by_message more (Control channel controller value) =
        always more (Control channel controller value) refl refl (is_inside begin until t) refl
    by_message more (Program channel program) = always more (Program channel program) refl refl (is_inside begin until t) refl
    by_message more (Bend channel bend) = always more (Bend channel bend) refl refl (is_inside begin until t) refl
