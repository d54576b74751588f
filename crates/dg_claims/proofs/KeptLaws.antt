-- What a change of the run of one source does to a kept table.
use Rattle.std.proofs.Common.{◌≡◌, ℕ, ◌+◌, ◌^◌, ◌<◌, ◌≤◌, ◌⊎◌, ◌↔◌, ◌∙◌, inl, inr, List, [], Contains, Option, Some, None, IfSome, length, refl, sym, ap, subst, arith}
use Rattle.std.proofs.lemmas.Bool.{cases_eq}
use Rattle.ufs_model.specs.Geometries.{IsGeometry}
use Rattle.ufs_model.specs.declared.claims.ClaimSource.{ClaimSource}
use Rattle.ufs_model.specs.declared.geometries.Geometry.{Geometry}
use Rattle.dg_claims.proofs.ListLaws.{contains_none}
use Rattle.dg_claims.proofs.RunLaws.{contains_run}
use Rattle.dg_claims.specs.Kept.{IsKept, IsRun, IsPlace, KeptClaims, kept_of, size_in}
use Rattle.dg_claims.specs.Marks.{AddsMark, AddsMarks, DropsMark, IsMarks, SameMarks, SameSources, Unmarks, marked_on}
use Rattle.dg_claims.specs.Runs.{run_at, run_fragments, run_of}
use Rattle.dg_claims.specs.Places.{source_of}
use Rattle.dg_claims.specs.declared.claims.Claims.TheInside.{Inside}
use Rattle.dg_claims.specs.declared.marks.Marks.{Marks}
use Rattle.dg_claims.specs.declared.places.Place.{Place}
use Rattle.dg_claims.specs.declared.places.Place.TheVariants.{Slot, Pointer}
use Rattle.dg_claims.specs.declared.runs.Run.{Run}

pub place_cases : (one other : Place) → (one ≡ other) ⊎ (one ≡ other → ⊥)
place_cases (Slot i s) (Slot j t) = elim (cases_eq i j) [
  | inl e ↦ elim (cases_eq s t) [ inl f ↦ inl cc | inr g ↦ inr (λ e. g cc) ]
  | inr g ↦ inr (λ e. g cc)
]
place_cases (Slot i s) (Pointer f l a) = inr (λ e. cc)
place_cases (Pointer f l a) (Slot i s) = inr (λ e. cc)
place_cases (Pointer f l a) (Pointer g m b) = elim (cases_eq f g) [
  | inl e ↦ elim (cases_eq l m) [
    | inl h ↦ elim (cases_eq a b) [ inl k ↦ inl cc | inr n ↦ inr (λ e. n cc) ]
    | inr n ↦ inr (λ e. n cc)
  ]
  | inr n ↦ inr (λ e. n cc)
]

-- nothing is claimed
pub empty_kept : (g : Option Geometry) (runs : List (ClaimSource × Run)) (marks : Marks) → IfSome g IsGeometry → size_in g < 2 ^ 32 → length marks.first.items ≡ size_in g
    → ((source : ClaimSource) → run_of runs source ≡ None) → IsMarks marks → ((fragment : ℕ) → marked_on marks fragment ≡ []) → IsKept (record { geometry = g; runs = runs; marks = marks })
empty_kept g runs marks is fits room bare_runs sound bare = record {
  geometry = is;
  fits = fits;
  room = room;
  marks = sound;
  runs = λ place. subst (λ run. IfSome run (λ r. IsPlace g place × IsRun (size_in g) r)) (sym (bare_runs (source_of place))) tt;
  marked = λ fragment place. (
    λ has. absurd (contains_none place (subst (λ xs. Contains xs place) (bare fragment) has)),
    λ has. absurd (contains_none fragment (subst (λ run. Contains (run_fragments run) fragment) (bare_runs (source_of place)) has)),
  );
}

-- the run of one source becomes another
pub record Remakes (old new : Inside) (place : Place) : Type 0 where
  pub geometry : new.geometry ≡ old.geometry
  pub marks : IsMarks new.marks
  pub room : length new.marks.first.items ≡ length old.marks.first.items
  pub others : (other : Place) → (other ≡ place → ⊥) → run_at new.runs other ≡ run_at old.runs other
  pub run : IfSome (run_at new.runs place) (λ run. IsPlace old.geometry place × IsRun (size_in old.geometry) run)
  pub marked : (fragment : ℕ) (other : Place) → (other ≡ place → ⊥) → Contains (marked_on new.marks fragment) other ↔ Contains (marked_on old.marks fragment) other
  pub here : (fragment : ℕ) → Contains (marked_on new.marks fragment) place ↔ Contains (run_fragments (run_at new.runs place)) fragment

pub remade : (old new : Inside) (place : Place) → IsKept old → Remakes old new place → IsKept new
remade old new place is made = record {
  geometry = subst (λ g. IfSome g IsGeometry) (sym made.geometry) is.geometry;
  fits = subst (λ g. size_in g < 2 ^ 32) (sym made.geometry) is.fits;
  room = made.room ∙ is.room ∙ ap size_in (sym made.geometry);
  marks = made.marks;
  runs = λ other. subst (λ g. IfSome (run_at new.runs other) (λ run. IsPlace g other × IsRun (size_in g) run)) (sym made.geometry) (elim (place_cases other place) [
    | inl same ↦ subst (λ p. IfSome (run_at new.runs p) (λ run. IsPlace old.geometry p × IsRun (size_in old.geometry) run)) (sym same) made.run
    | inr apart ↦ subst (λ r. IfSome r (λ run. IsPlace old.geometry other × IsRun (size_in old.geometry) run)) (sym (made.others other apart)) (is.runs other)
  ]);
  marked = λ fragment other. elim (place_cases other place) [
    | inl same ↦ subst (λ p. Contains (marked_on new.marks fragment) p ↔ Contains (run_fragments (run_at new.runs p)) fragment) (sym same) (made.here fragment)
    | inr apart ↦
        let marks = made.marked fragment other apart in
        let was = is.marked fragment other in
        let same = made.others other apart in (
          λ has. subst (λ run. Contains (run_fragments run) fragment) (sym same) (was.0 (marks.0 has)),
          λ has. marks.1 (was.1 (subst (λ run. Contains (run_fragments run) fragment) same has)),
        )
  ];
}

-- ---- a run that is put

-- a source that claims nothing is on no fragment
pub none_marked : (old : Inside) (kept : KeptClaims) (place : Place) → kept_of old ≡ kept → IsKept old → run_at kept.runs place ≡ None
    → (fragment : ℕ) → Contains (marked_on old.marks fragment) place → ⊥
none_marked old kept place view is none fragment has =
    let bare : run_at old.runs place ≡ None = ap (λ (k : KeptClaims). run_at k.runs place) view ∙ none in
    contains_none fragment (subst (λ r. Contains (run_fragments r) fragment) bare ((is.marked fragment place).0 has))

-- one more fragment
pub adds_more : (old middle new : Marks) (place : Place) (first done count at : ℕ) → AddsMarks old middle place first done → AddsMark middle new at place → at ≡ first + done → count ≡ done + 1
    → AddsMarks old new place first count
adds_more old middle new place first done count at part adds next more = record {
  room = adds.room ∙ part.room;
  here = λ fragment. let before = part.here fragment in elim (cases_eq fragment at) [
    | inl same ↦ (
      λ has. inr (omega (arith, same, next), omega (arith, same, next, more)),
      λ either. subst (λ f. Contains (marked_on new f) place) (sym same) ((adds.here place).1 (inr refl)),
    )
    | inr apart ↦
        let stays = adds.elsewhere fragment apart in (
          λ has. elim (before.0 (subst (λ xs. Contains xs place) stays has)) [
            | inl h ↦ inl h
            | inr both ↦ inr (both.0, omega (arith, both.1, more))
          ],
          λ either. subst (λ xs. Contains xs place) (sym stays) (before.1 (elim either [
            | inl h ↦ inl h
            | inr both ↦ inr (both.0, omega (arith, both.1, apart, next, more))
          ])),
        )
  ];
  others = λ fragment other ne. let before = part.others fragment other ne in elim (cases_eq fragment at) [
    | inl same ↦
        let here = adds.here other in (
          λ has. before.0 (elim (here.0 (subst (λ f. Contains (marked_on new f) other) same has)) [
            | inl h ↦ subst (λ f. Contains (marked_on middle f) other) (sym same) h
            | inr e ↦ absurd (ne e)
          ]),
          λ has. subst (λ f. Contains (marked_on new f) other) (sym same) (here.1 (inl (subst (λ f. Contains (marked_on middle f) other) same (before.1 has)))),
        )
    | inr apart ↦
        let stays = adds.elsewhere fragment apart in (
          λ has. before.0 (subst (λ xs. Contains xs other) stays has),
          λ has. subst (λ xs. Contains xs other) (sym stays) (before.1 has),
        )
  ];
}

-- the next fragment of the run hasn't the source yet
pub next_fresh : (old middle : Marks) (place : Place) (first done at : ℕ) → AddsMarks old middle place first done → ((fragment : ℕ) → Contains (marked_on old fragment) place → ⊥) → at ≡ first + done
    → Contains (marked_on middle at) place → ⊥
next_fresh old middle place first done at part fresh next has = elim ((part.here at).0 has) [
  | inl h ↦ fresh at h
  | inr both ↦ omega (arith, both.1, next)
]

pub adds_same : (old middle new : Marks) (place : Place) (first count : ℕ) → AddsMarks old middle place first count → SameMarks middle new → AddsMarks old new place first count
adds_same old middle new place first count part same = record {
  room = same.room ∙ part.room;
  here = λ fragment. subst (λ xs. Contains xs place ↔ (Contains (marked_on old fragment) place ⊎ ((first ≤ fragment) × (fragment < first + count)))) (sym (same.all fragment)) (part.here fragment);
  others = λ fragment other ne. subst (λ xs. Contains xs other ↔ Contains (marked_on old fragment) other) (sym (same.all fragment)) (part.others fragment other ne);
}

-- a source that was put on some fragments and taken away again
pub added_back : (old middle new : Marks) (place : Place) (first count : ℕ) → ((fragment : ℕ) → Contains (marked_on old fragment) place → ⊥)
    → AddsMarks old middle place first count → Unmarks middle new place first count → SameSources old new
added_back old middle new place first count fresh adds drops = record {
  room = drops.room ∙ adds.room;
  all = λ fragment other. elim (place_cases other place) [
    | inl same ↦ subst (λ p. Contains (marked_on new fragment) p ↔ Contains (marked_on old fragment) p) (sym same) (
      λ has. let both = (drops.here fragment).0 has in elim ((adds.here fragment).0 (both.0)) [
        | inl h ↦ h
        | inr within ↦ let past = both.1 (within.0) in absurd (omega (arith, within.1, past))
      ],
      λ has. absurd (fresh fragment has),
    )
    | inr ne ↦ let marked = adds.others fragment other ne in let unmarked = drops.others fragment other ne in (
      λ has. marked.0 (unmarked.0 has),
      λ has. unmarked.1 (marked.1 has),
    )
  ];
}

pub run_put : (old : Inside) (kept : KeptClaims) (runs : List (ClaimSource × Run)) (marks : Marks) (place : Place) (run : Run) → kept_of old ≡ kept → IsKept old
    → IsPlace kept.geometry place → IsRun (size_in kept.geometry) run → run_at kept.runs place ≡ None
    → IsMarks marks → AddsMarks old.marks marks place run.first run.count → run_at runs place ≡ Some run
    → ((other : Place) → (other ≡ place → ⊥) → run_at runs other ≡ run_at old.runs other)
    → IsKept (record { geometry = old.geometry; runs = runs; marks = marks })
run_put old kept runs marks place run view is source fits none sound adds here others =
    let fresh = none_marked old kept place view is none in
    remade old (record { geometry = old.geometry; runs = runs; marks = marks }) place is (record {
      geometry = refl;
      marks = sound;
      room = adds.room;
      others = others;
      run = subst (λ r. IfSome r (λ run. IsPlace old.geometry place × IsRun (size_in old.geometry) run)) (sym here) (
        subst (λ (k : KeptClaims). IsPlace k.geometry place) (sym view) source,
        subst (λ (k : KeptClaims). IsRun (size_in k.geometry) run) (sym view) fits,
      );
      marked = λ fragment other ne. adds.others fragment other ne;
      here = λ fragment.
          let covers = contains_run run fragment in (
            λ has. elim ((adds.here fragment).0 has) [
              | inl h ↦ absurd (fresh fragment h)
              | inr both ↦ subst (λ r. Contains (run_fragments r) fragment) (sym here) (covers.1 both)
            ],
            λ has. (adds.here fragment).1 (inr (covers.0 (subst (λ r. Contains (run_fragments r) fragment) here has))),
          );
    })

-- the run of a source is inside the volume
pub run_within : (old : Inside) (kept : KeptClaims) (run : Run) → kept_of old ≡ kept → IsKept old → IsRun (size_in kept.geometry) run → run.first + run.count ≤ length old.marks.first.items
run_within old kept run view is fits =
    let size : size_in kept.geometry ≡ size_in old.geometry = ap (λ (k : KeptClaims). size_in k.geometry) (sym view) in
    omega (arith, fits.inside, size, is.room)

-- ---- the marks are as they were

pub same_kept : (old : Inside) (runs : List (ClaimSource × Run)) (marks : Marks) → IsKept old → runs ≡ old.runs → IsMarks marks → SameSources old.marks marks
    → IsKept (record { geometry = old.geometry; runs = runs; marks = marks })
same_kept old runs marks is same sound stays = record {
  geometry = is.geometry;
  fits = is.fits;
  room = stays.room ∙ is.room;
  marks = sound;
  runs = λ place. subst (λ es. IfSome (run_at es place) (λ run. IsPlace old.geometry place × IsRun (size_in old.geometry) run)) (sym same) (is.runs place);
  marked = λ fragment place.
      let marks = stays.all fragment place in
      let was = is.marked fragment place in (
        λ has. subst (λ es. Contains (run_fragments (run_at es place)) fragment) (sym same) (was.0 (marks.0 has)),
        λ has. marks.1 (was.1 (subst (λ es. Contains (run_fragments (run_at es place)) fragment) same has)),
      );
}

-- ---- a run that is forgotten

pub unmarks_more : (old middle new : Marks) (place : Place) (first done count at : ℕ) → Unmarks old middle place first done → DropsMark middle new at place → at ≡ first + done → count ≡ done + 1
    → Unmarks old new place first count
unmarks_more old middle new place first done count at part drops next more = record {
  room = drops.room ∙ part.room;
  here = λ fragment. let before = part.here fragment in elim (cases_eq fragment at) [
    | inl same ↦ (
      λ has. absurd (((drops.here place).0 (subst (λ f. Contains (marked_on new f) place) same has)).1 refl),
      λ both. absurd (omega (arith, both.1 (omega (arith, same, next)), same, next, more)),
    )
    | inr apart ↦
        let stays = drops.elsewhere fragment apart in (
          λ has. let both = before.0 (subst (λ xs. Contains xs place) stays has) in (both.0, λ le. let past = both.1 le in omega (arith, past, apart, next, more)),
          λ both. subst (λ xs. Contains xs place) (sym stays) (before.1 (both.0, λ le. let past = both.1 le in omega (arith, past, more))),
        )
  ];
  others = λ fragment other ne. let before = part.others fragment other ne in elim (cases_eq fragment at) [
    | inl same ↦
        let here = drops.here other in (
          λ has. before.0 (subst (λ f. Contains (marked_on middle f) other) (sym same) ((here.0 (subst (λ f. Contains (marked_on new f) other) same has)).0)),
          λ has. subst (λ f. Contains (marked_on new f) other) (sym same) (here.1 (subst (λ f. Contains (marked_on middle f) other) same (before.1 has), ne)),
        )
    | inr apart ↦
        let stays = drops.elsewhere fragment apart in (
          λ has. before.0 (subst (λ xs. Contains xs other) stays has),
          λ has. subst (λ xs. Contains xs other) (sym stays) (before.1 has),
        )
  ];
}

pub cleared : (old : Inside) (runs : List (ClaimSource × Run)) (marks : Marks) (place : Place) (run : Run) → IsKept old → run_at old.runs place ≡ Some run
    → IsMarks marks → Unmarks old.marks marks place run.first run.count → run_at runs place ≡ None
    → ((other : Place) → (other ≡ place → ⊥) → run_at runs other ≡ run_at old.runs other)
    → IsKept (record { geometry = old.geometry; runs = runs; marks = marks })
cleared old runs marks place run is was sound drops none others =
    remade old (record { geometry = old.geometry; runs = runs; marks = marks }) place is (record {
      geometry = refl;
      marks = sound;
      room = drops.room;
      others = others;
      run = subst (λ r. IfSome r (λ run. IsPlace old.geometry place × IsRun (size_in old.geometry) run)) (sym none) tt;
      marked = λ fragment other ne. drops.others fragment other ne;
      here = λ fragment.
          let covers = contains_run run fragment in (
            λ has.
                let both = (drops.here fragment).0 has in
                let within = covers.0 (subst (λ r. Contains (run_fragments r) fragment) was ((is.marked fragment place).0 (both.0))) in
                let past = both.1 (within.0) in
                absurd (omega (arith, within.1, past)),
            λ has. absurd (contains_none fragment (subst (λ r. Contains (run_fragments r) fragment) none has)),
          );
    })
