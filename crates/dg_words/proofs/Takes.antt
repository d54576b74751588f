-- What `clap` makes of the words of a command whose words are all values.
use Rattle.std.proofs.Common.{◌≡◌, ◌∙◌, ◌&&◌, ◌++◌, Bool, List, [], ◌∷◌, codes, true, false, refl, ap, ap₂, rules, sym, subst, map, arith, length, Option, Some}
use Rattle.std.specs.Prelude.{is_some, fold}
use Rattle.std.specs.List.{list_all}
use Rattle.clap.specs.Simple.{built, entered}
use Rattle.clap.specs.Takes.{default_passes, entered_passes, is_valid, settle_passes, walk_passes}
use Rattle.clap.specs.Walk.{Walk, finished, nothing_held, walk_from, walked}
use Rattle.clap.specs.Words.{App, HasMatchesOf, Rule, Text, first_of, first_value, found_of, is_simple, matches_of, takes}
use Rattle.clap.specs.declared.parser.matches.ArgMatches.{ArgMatches}
use Rattle.clap.proofs.WalkLemmas.{first_value-rows}
use Rattle.dg_words.specs.Values.{AreFound, EachFound, any_has_hyphen, bare_app, with_value}
use Rattle.dg_words.proofs.Places.{all_placed, all_plain, each_passes, walk_does_pass, walk_places, WaitsAtEach}

abbrev pub path_app : App
path_app = with_value (bare_app (codes "path")) (codes "PATH")

abbrev pub drill_app : App
drill_app = with_value (with_value (bare_app (codes "drill")) (codes "SEED")) (codes "FILES")

abbrev pub trace_app : App
trace_app = with_value (with_value (with_value (with_value (bare_app (codes "trace")) (codes "ORDER")) (codes "B")) (codes "K")) (codes "M")

-- whether a parse passes that ended so, and in which each word passes or not
abbrev judged : App → Walk → Bool → Bool
judged a end pass =
    is_simple a && (entered_passes (built a) end.stopped && (pass && (settle_passes (built a).top.rules (built a).top.args_override_self end.held
    && (list_all default_passes (built a).top.rules && is_valid (built a).top (finished (built a).top.rules end.held) (is_some (entered (built a) end.stopped))))))

abbrev rules_of : App → List Rule
rules_of a = (built a).top.rules

-- each word is waited for as a value
abbrev Waits : App → List Text → Type 0
Waits a words = WaitsAtEach (rules_of a) (walk_from nothing_held) words

abbrev end_of : App → List Text → Walk
end_of a words = all_placed (rules_of a) (walk_from nothing_held) words

path_waits : (path : Text) → Waits path_app (path ∷ [])
path_waits path = (refl, tt)

drill_waits : (seed files : Text) → Waits drill_app (seed ∷ files ∷ [])
drill_waits seed files = (refl, (refl, tt))

trace_waits : (order b k m : Text) → Waits trace_app (order ∷ b ∷ k ∷ m ∷ [])
trace_waits order b k m = (refl, (refl, (refl, (refl, tt))))

abbrev passes_of : App → List Text → Bool
passes_of a words = each_passes (built a).top (walk_from nothing_held) words

-- a parse of words that are all waited for
taken : (a : App) (words : List Text) → any_has_hyphen words ≡ false → Waits a words → judged a (fold (walked (rules_of a) []) (walk_from nothing_held) words) (walk_passes (built a).top [] (walk_from nothing_held) words) ≡ judged a (end_of a words) (passes_of a words)
taken a words plain waits =
    ap₂ (judged a) (walk_places (rules_of a) (walk_from nothing_held) words (all_plain words plain) waits)
    (walk_does_pass (built a).top (walk_from nothing_held) words (all_plain words plain) waits)

-- the value of this name at the end of a walk
abbrev value_at : App → Text → Walk → Option Text
value_at a name end = first_of name (finished (rules_of a) end.held)

given : (a : App) (id : Text) (words : List Text) → any_has_hyphen words ≡ false → Waits a words → value_at a id (fold (walked (rules_of a) []) (walk_from nothing_held) words) ≡ value_at a id (end_of a words)
given a id words plain waits = ap (value_at a id) (walk_places (rules_of a) (walk_from nothing_held) words (all_plain words plain) waits)

each_found : (words : List Text) → EachFound (map Some words)
each_found [] = tt
each_found (word ∷ words) = (search rules, each_found words)

found_in : (words : List Text) (values : List (Option Text)) → values ≡ map Some words → AreFound words values
found_in words values is = record { each = subst EachFound (sym is) (each_found words); same = sym is }

pub some_same : (xs ys : List Text) → map Some xs ≡ map Some ys → xs ≡ ys
some_same [] [] e = refl
some_same [] (y ∷ ys) e = cc
some_same (x ∷ xs) [] e = cc
some_same (x ∷ xs) (y ∷ ys) e =
    let first : x ≡ y = cc in
    let rest : map Some xs ≡ map Some ys = cc in
    ap₂ (λ (v : Text) (w : List Text). v ∷ w) first (some_same xs ys rest)

-- ---- one value

pub takes_path : (words : List Text) → length words ≡ 1 → any_has_hyphen words ≡ false → takes path_app words ≡ true
takes_path [] n plain = absurd (omega arith)
takes_path (path ∷ []) n plain = taken path_app (path ∷ []) plain (path_waits path)
takes_path (path ∷ x ∷ rest) n plain = absurd (omega arith)

abbrev path_at : Text → List Text → Option Text
path_at id words = first_of id (matches_of path_app words)

pub gives_path : (words : List Text) → length words ≡ 1 → any_has_hyphen words ≡ false → AreFound words (path_at (codes "PATH") words ∷ [])
gives_path [] n plain = absurd (omega arith)
gives_path (path ∷ []) n plain = found_in (path ∷ []) _ (ap (λ (v : Option Text). v ∷ []) (given path_app (codes "PATH") (path ∷ []) plain (path_waits path)))
gives_path (path ∷ x ∷ rest) n plain = absurd (omega arith)

-- ---- two values

pub takes_drill : (words : List Text) → length words ≡ 2 → any_has_hyphen words ≡ false → takes drill_app words ≡ true
takes_drill [] n plain = absurd (omega arith)
takes_drill (seed ∷ []) n plain = absurd (omega arith)
takes_drill (seed ∷ files ∷ []) n plain = taken drill_app (seed ∷ files ∷ []) plain (drill_waits seed files)
takes_drill (seed ∷ files ∷ x ∷ rest) n plain = absurd (omega arith)

abbrev drill_at : Text → List Text → Option Text
drill_at id words = first_of id (matches_of drill_app words)

pub gives_drill : (words : List Text) → length words ≡ 2 → any_has_hyphen words ≡ false → AreFound words (drill_at (codes "SEED") words ∷ drill_at (codes "FILES") words ∷ [])
gives_drill [] n plain = absurd (omega arith)
gives_drill (seed ∷ []) n plain = absurd (omega arith)
gives_drill (seed ∷ files ∷ []) n plain =
    let words = seed ∷ files ∷ [] in
    found_in words _ (ap₂ (λ (v w : Option Text). v ∷ w ∷ []) (given drill_app (codes "SEED") words plain (drill_waits seed files))
    (given drill_app (codes "FILES") words plain (drill_waits seed files)))
gives_drill (seed ∷ files ∷ x ∷ rest) n plain = absurd (omega arith)

-- ---- four values

pub takes_trace : (words : List Text) → length words ≡ 4 → any_has_hyphen words ≡ false → takes trace_app words ≡ true
takes_trace [] n plain = absurd (omega arith)
takes_trace (order ∷ []) n plain = absurd (omega arith)
takes_trace (order ∷ b ∷ []) n plain = absurd (omega arith)
takes_trace (order ∷ b ∷ k ∷ []) n plain = absurd (omega arith)
takes_trace (order ∷ b ∷ k ∷ m ∷ []) n plain = taken trace_app (order ∷ b ∷ k ∷ m ∷ []) plain (trace_waits order b k m)
takes_trace (order ∷ b ∷ k ∷ m ∷ x ∷ rest) n plain = absurd (omega arith)

abbrev trace_at : Text → List Text → Option Text
trace_at id words = first_of id (matches_of trace_app words)

pub gives_trace : (words : List Text) → length words ≡ 4 → any_has_hyphen words ≡ false → AreFound words (trace_at (codes "ORDER") words ∷ trace_at (codes "B") words ∷ trace_at (codes "K") words ∷ trace_at (codes "M") words ∷ [])
gives_trace [] n plain = absurd (omega arith)
gives_trace (order ∷ []) n plain = absurd (omega arith)
gives_trace (order ∷ b ∷ []) n plain = absurd (omega arith)
gives_trace (order ∷ b ∷ k ∷ []) n plain = absurd (omega arith)
gives_trace (order ∷ b ∷ k ∷ m ∷ []) n plain =
    let words = order ∷ b ∷ k ∷ m ∷ [] in
    let waits = trace_waits order b k m in
    found_in words _ (ap₂ (λ (v w : List (Option Text)). v ++ w)
    (ap₂ (λ (v w : Option Text). v ∷ w ∷ []) (given trace_app (codes "ORDER") words plain waits) (given trace_app (codes "B") words plain waits))
    (ap₂ (λ (v w : Option Text). v ∷ w ∷ []) (given trace_app (codes "K") words plain waits) (given trace_app (codes "M") words plain waits)))
gives_trace (order ∷ b ∷ k ∷ m ∷ x ∷ rest) n plain = absurd (omega arith)

-- ---- what a parse gave

value_is : (a : App) (words : List Text) (m : ArgMatches) (id : Text) → is_simple a ≡ true → HasMatchesOf a words m → first_value (found_of m) id ≡ first_of id (matches_of a words)
value_is a words m id simple has = first_value-rows (found_of m) id ∙ ap (first_of id) (has simple).0

pub path_found : (a : App) (words : List Text) (m : ArgMatches) → a ≡ path_app → length words ≡ 1 → any_has_hyphen words ≡ false → HasMatchesOf a words m → AreFound words (first_value (found_of m) (codes "PATH") ∷ [])
path_found a words m is n plain has =
    let own = subst (λ (x : App). HasMatchesOf x words m) is has in
    subst (λ (v : Option Text). AreFound words (v ∷ [])) (sym (value_is path_app words m (codes "PATH") refl own)) (gives_path words n plain)

pub drill_found : (a : App) (words : List Text) (m : ArgMatches) → a ≡ drill_app → length words ≡ 2 → any_has_hyphen words ≡ false → HasMatchesOf a words m → AreFound words (first_value (found_of m) (codes "SEED") ∷ first_value (found_of m) (codes "FILES") ∷ [])
drill_found a words m is n plain has =
    let own = subst (λ (x : App). HasMatchesOf x words m) is has in
    let values = ap₂ (λ (v w : Option Text). v ∷ w ∷ []) (value_is drill_app words m (codes "SEED") refl own) (value_is drill_app words m (codes "FILES") refl own) in
    subst (AreFound words) (sym values) (gives_drill words n plain)

pub trace_found : (a : App) (words : List Text) (m : ArgMatches) → a ≡ trace_app → length words ≡ 4 → any_has_hyphen words ≡ false → HasMatchesOf a words m → AreFound words (first_value (found_of m) (codes "ORDER") ∷ first_value (found_of m) (codes "B") ∷ first_value (found_of m) (codes "K") ∷ first_value (found_of m) (codes "M") ∷ [])
trace_found a words m is n plain has =
    let own = subst (λ (x : App). HasMatchesOf x words m) is has in
    let front = ap₂ (λ (v w : Option Text). v ∷ w ∷ []) (value_is trace_app words m (codes "ORDER") refl own) (value_is trace_app words m (codes "B") refl own) in
    let back = ap₂ (λ (v w : Option Text). v ∷ w ∷ []) (value_is trace_app words m (codes "K") refl own) (value_is trace_app words m (codes "M") refl own) in
    let values = ap₂ (λ (v w : List (Option Text)). v ++ w) front back in
    subst (AreFound words) (sym values) (gives_trace words n plain)
