-- Tables of labels, and passes over them.
use Rattle.std.proofs.Common.{◌≡◌, ◌≢◌, ◌⊎◌, inl, inr, ℕ, ◌+◌, ◌<◌, ◌≤◌, Bool, true, false, List, length, refl, sym, ◌∙◌, ap, subst, arith}
use Rattle.std.specs.Prelude.{◌==◌, Option, Some, None, IfSome, IsSome, IsSomeAnd, max, replicate, slice_set}
use Rattle.std.proofs.lemmas.Bool.{cases_Bool, cases_eq, cases_lt, false≢true}
use Rattle.std.proofs.Math.ListN.{length-set}
use Rattle.std.proofs.lemmas.List.{get_or-replicate, get_or-set_other, get_or-set_same, get_or_past, length-replicate}
use Rattle.std.proofs.lemmas.Nat.Bits.{bit_at-zero}
use Rattle.dg_io.specs.Commits.{is_marked as has_bit}
use Rattle.dg_io.specs.declared.outside.Rack.{Ghosts}
use Rattle.dg_model.specs.Marks.{is_marked}
use Rattle.dg_open.proofs.ReadLemmas.{failed_before, failed_on, labeled_on, measured_on, reads_both, reads_none, seen_before, seen_on, told_on}
use Rattle.dg_open.specs.Reopenings.{LeavesRead}
use Rattle.dg_open.specs.Seen.{AllStand, AreFailed, AreLabeled, AreMeasured, AreQuiet, AreSealed, AreSeen, HasFailed, HasNotFailed, HasNumber, HasOpened, IsFirst, IsGreatestOf, IsLabeledBy, IsLater, IsMeasured, IsSeen}
use Rattle.dg_open.specs.Seen.{Marks, NoneMarked, QuietBut, ReadsOne, SayNone, SaysAt, SaysNone, StandBut, label_at}
use Rattle.dg_open.specs.declared.bodies.Source.{Source}
use Rattle.dg_save.specs.declared.labels.Label.{Label}

-- ---- places of a table

pub set_here : (table : List (Option Label)) (m : ℕ) (found : Option Label) → m < length table → label_at (slice_set table m found) m ≡ found
set_here table m found within = get_or-set_same table m found None within

pub set_there : (table : List (Option Label)) (m q : ℕ) (found : Option Label) → q ≢ m → label_at (slice_set table m found) q ≡ label_at table q
set_there table m q found other = get_or-set_other table m q found None other

-- ---- no member was looked for

pub none_seen : {R : Type 0} (rack : Ghosts R) (start : R) (table : List (Option Label)) → length table ≡ 32 → AreSeen rack start start table 0
none_seen rack start table size = record { seen = λ q low. absurd (omega (arith, low)); leaves = reads_none rack start; size = size }

-- ---- one member more was found

pub one_seen : {R : Type 0} (rack : Ghosts R) (start mid now : R) (table : List (Option Label)) (m : ℕ) (found : Option Label) → m < 32
    → AreSeen rack start mid table m → ReadsOne rack m mid now → IsSeen rack mid now m found → AreSeen rack start now (slice_set table m found) (m + 1)
one_seen rack start mid now table m found within seen reads here = record {
  seen = each;
  leaves = reads_both rack start mid now seen.leaves reads.leaves;
  size = length-set table m found ∙ seen.size;
}
  where
    each : (q : ℕ) → q < m + 1 → IsSeen rack start now q (label_at (slice_set table m found) q)
    each q low = elim (cases_eq q m) [
      | inl same ↦
          let e : label_at (slice_set table m found) q ≡ found = ap (λ (p : ℕ). label_at (slice_set table m found) p) same ∙ set_here table m found (omega (arith, seen.size)) in
          let h : IsSeen rack start now q found = seen_before rack start mid now q found seen.leaves (subst (λ (p : ℕ). IsSeen rack mid now p found) (sym same) here) in
          subst (λ (o : Option Label). IsSeen rack start now q o) (sym e) h
      | inr other ↦
          let h = seen_on rack start mid now q (label_at table q) (seen.seen q (omega arith)) reads.leaves in
          subst (λ (o : Option Label). IsSeen rack start now q o) (sym (set_there table m q found other)) h
    ]

pub one_stands : {R : Type 0} (rack : Ghosts R) (mid now : R) (table : List (Option Label)) (m : ℕ) (found : Option Label) → length table ≡ 32 → m < 32
    → AllStand rack mid table m → ReadsOne rack m mid now → (IsSome found → rack.stands now m ≡ true) → AllStand rack now (slice_set table m found) (m + 1)
one_stands rack mid now table m found size within stand reads here q low some = elim (cases_eq q m) [
  | inl same ↦
      let e : label_at (slice_set table m found) q ≡ found = ap (λ (p : ℕ). label_at (slice_set table m found) p) same ∙ set_here table m found (omega arith) in
      subst (λ (p : ℕ). rack.stands now p ≡ true) (sym same) (here (subst (λ (o : Option Label). IsSome o) e some))
  | inr other ↦ reads.others_stand q other (stand q (omega arith) (subst (λ (o : Option Label). IsSome o) (set_there table m q found other) some))
]

pub none_quiet : {R : Type 0} (rack : Ghosts R) (start : R) (table : List (Option Label)) → AreQuiet rack start start table 0
none_quiet rack start table = record { labeled = λ q low some. refl; later = λ q high. refl }

pub one_quiet : {R : Type 0} (rack : Ghosts R) (start mid now : R) (table : List (Option Label)) (m : ℕ) (found : Option Label) → length table ≡ 32 → m < 32
    → AreQuiet rack start mid table m → ReadsOne rack m mid now → (IsSome found → HasNotFailed rack mid now m) → AreQuiet rack start now (slice_set table m found) (m + 1)
one_quiet rack start mid now table m found size within quiet reads here = record {
  labeled = λ q low some. elim (cases_eq q m) [
    | inl same ↦
        let e : label_at (slice_set table m found) q ≡ found = ap (λ (p : ℕ). label_at (slice_set table m found) p) same ∙ set_here table m found (omega arith) in
        subst (λ (p : ℕ). HasNotFailed rack start now p) (sym same) (here (subst (λ (o : Option Label). IsSome o) e some) ∙ quiet.later m (omega arith))
    | inr other ↦
        reads.other_faults q other ∙ quiet.labeled q (omega arith) (subst (λ (o : Option Label). IsSome o) (set_there table m q found other) some)
  ];
  later = λ q high. reads.other_faults q (λ e. omega (arith, e)) ∙ quiet.later q (omega arith);
}

pub one_measured : {R : Type 0} (rack : Ghosts R) (mid now : R) (table : List (Option Label)) (m old new : ℕ) (found : Option Label) → length table ≡ 32 → m < 32
    → AreMeasured rack mid table old m → ReadsOne rack m mid now → IfSome found (IsMeasured rack now m (has_bit new m))
    → ((q : ℕ) → q ≢ m → has_bit new q ≡ has_bit old q) → AreMeasured rack now (slice_set table m found) new (m + 1)
one_measured rack mid now table m old new found size within measured reads here others q low = elim (cases_eq q m) [
  | inl same ↦
      let e : label_at (slice_set table m found) q ≡ found = ap (λ (p : ℕ). label_at (slice_set table m found) p) same ∙ set_here table m found (omega arith) in
      subst (λ (o : Option Label). IfSome o (IsMeasured rack now q (has_bit new q))) (sym e)
      (subst (λ (p : ℕ). IfSome found (IsMeasured rack now p (has_bit new p))) (sym same) here)
  | inr other ↦
      subst (λ (o : Option Label). IfSome o (IsMeasured rack now q (has_bit new q))) (sym (set_there table m q found other))
      (subst (λ (b : Bool). IfSome (label_at table q) (IsMeasured rack now q b)) (sym (others q other))
      (measured_on rack mid now q (has_bit old q) (label_at table q) (measured q (omega (arith, low, other))) reads.leaves))
]

-- the bits of the members that come next are clear
pub one_clear : (m old new : ℕ) → ((q : ℕ) → m ≤ q → has_bit old q ≡ false) → ((q : ℕ) → q ≢ m → has_bit new q ≡ has_bit old q)
    → (q : ℕ) → m + 1 ≤ q → has_bit new q ≡ false
one_clear m old new clear others q high = others q (λ e. omega (arith, e, high)) ∙ clear q (omega (arith, high))

pub none_has : (q : ℕ) → has_bit 0 q ≡ false
none_has q = ap (λ (n : ℕ). n == 1) (bit_at-zero q)

-- ---- the greatest number

some_same : (a b : Label) → Some a ≡ Some b → a ≡ b
some_same a b e = cc

none_some : (a : Label) → None ≡ Some a → ⊥
none_some a e = cc

cases_max : (a b : ℕ) → (max a b ≡ a) ⊎ (max a b ≡ b)
cases_max a b = elim (cases_lt a b) [ inl less ↦ inr (omega arith) | inr more ↦ inl (omega arith) ]

-- where it is that of the member that comes next, or not
pub one_later : (table : List (Option Label)) (m : ℕ) (greatest later : Option ℕ) → IsGreatestOf table m greatest → IsLater greatest (label_at table m) later
    → IsGreatestOf table (m + 1) later
one_later table m greatest later is next = by_label (label_at table m) refl greatest is next
  where
    at_end : (p : ℕ) → p < m + 1 → (p < m) ⊎ (p ≡ m)
    at_end p low = elim (cases_eq p m) [ inl e ↦ inr e | inr other ↦ inl (omega arith) ]

    by_label : (found : Option Label) → label_at table m ≡ found → (old : Option ℕ) → IsGreatestOf table m old → IsLater old found later → IsGreatestOf table (m + 1) later
    by_label None at None old next = subst (λ (o : Option ℕ). IsGreatestOf table (m + 1) o) (sym next) (λ q low. elim (at_end q low) [ inl less ↦ old q less | inr e ↦ ap (λ (p : ℕ). label_at table p) e ∙ at ])
    by_label (Some label) at None old next = subst (λ (o : Option ℕ). IsGreatestOf table (m + 1) o) (sym next) (record {
      q = m;
      label = label;
      there = at;
      is = refl;
      most = λ p other low there. elim (at_end p low) [
        | inl less ↦ absurd (none_some other (sym (old p less) ∙ there))
        | inr e ↦ let same = some_same label other (sym at ∙ ap (λ (t : ℕ). label_at table t) (sym e) ∙ there) in let n = ap (λ (l : Label). l.sequence) same in omega (arith, n)
      ];
    })
    by_label None at (Some number) old next = subst (λ (o : Option ℕ). IsGreatestOf table (m + 1) o) (sym next) (record {
      q = old.q;
      label = old.label;
      there = old.there;
      is = old.is;
      most = λ p other low there. elim (at_end p low) [
        | inl less ↦ old.most p other less there
        | inr e ↦ absurd (none_some other (sym at ∙ ap (λ (t : ℕ). label_at table t) (sym e) ∙ there))
      ];
    })
    by_label (Some label) at (Some number) old next = subst (λ (o : Option ℕ). IsGreatestOf table (m + 1) o) (sym next) (elim (cases_max number label.sequence) [
      | inl big ↦ record {
        q = old.q;
        label = old.label;
        there = old.there;
        is = old.is ∙ sym big;
        most = λ p other low there. elim (at_end p low) [
          | inl less ↦ omega (arith, old.most p other less there)
          | inr e ↦ let same = some_same label other (sym at ∙ ap (λ (t : ℕ). label_at table t) (sym e) ∙ there) in let n = ap (λ (l : Label). l.sequence) same in omega (arith, n)
        ];
      }
      | inr big ↦ record {
        q = m;
        label = label;
        there = at;
        is = sym big;
        most = λ p other low there. elim (at_end p low) [
          | inl less ↦ omega (arith, old.most p other less there)
          | inr e ↦ let same = some_same label other (sym at ∙ ap (λ (t : ℕ). label_at table t) (sym e) ∙ there) in let n = ap (λ (l : Label). l.sequence) same in omega (arith, n)
        ];
      }
    ])

-- ---- opened labels

pub has_opened : (table : List (Option Label)) (greatest m : ℕ) (found : Option Label) → label_at table m ≡ found
    → IsSomeAnd found (λ label. (label.sequence ≡ greatest) × (label.sealed ≡ false)) → HasOpened table greatest
has_opened table greatest m None at is = absurd is
has_opened table greatest m (Some label) at is = record { q = m; label = label; number = record { there = at; is = is.0 }; opened = is.1 }

pub one_sealed : (table : List (Option Label)) (greatest m : ℕ) → AreSealed table greatest m
    → (IsSomeAnd (label_at table m) (λ label. (label.sequence ≡ greatest) × (label.sealed ≡ false)) → ⊥) → AreSealed table greatest (m + 1)
one_sealed table greatest m sealed not_opened q label low number = elim (cases_eq q m) [
  | inl same ↦ elim (cases_Bool label.sealed) [
    | inl is ↦ is
    | inr open_seal ↦ absurd (not_opened (subst (λ (o : Option Label). IsSomeAnd o (λ l. (l.sequence ≡ greatest) × (l.sealed ≡ false)))
        (sym number.there ∙ ap (λ (p : ℕ). label_at table p) same) (number.is, open_seal)))
  ]
  | inr other ↦ sealed q label (omega arith) number
]

-- ---- members that were read

pub none_marked : (n : ℕ) → NoneMarked (replicate n false) 0
none_marked n q low = elim (cases_lt q n) [
  | inl within ↦ get_or-replicate n q false false within
  | inr past ↦ get_or_past (replicate n false) q false (omega (arith, length-replicate n false))
]

-- what is known once the first members were read: they say no state
pub record Walked {R : Type 0} (rack : Ghosts R) (start now : R) (table : List (Option Label)) (greatest : ℕ) (failed : List Bool) (m : ℕ) : Type 0 where
  pub leaves : LeavesRead rack start now
  pub labeled : AreLabeled rack now table
  pub none : SayNone rack start now table greatest m
  pub stand : StandBut rack now table failed
  pub fails : AreFailed rack start now failed
  pub quiet : QuietBut rack start now failed
  pub clear : NoneMarked failed m
  pub size : length failed ≡ 32

pub none_walked : {R : Type 0} (rack : Ghosts R) (start : R) (table : List (Option Label)) (greatest : ℕ) (failed : List Bool) → AreLabeled rack start table
    → AllStand rack start table 32 → NoneMarked failed 0 → length failed ≡ 32 → Walked rack start start table greatest failed 0
none_walked rack start table greatest failed labeled stand clear size = record {
  leaves = reads_none rack start;
  labeled = labeled;
  none = λ q label low number. absurd (omega (arith, low));
  stand = λ q low some not. stand q low some;
  fails = λ q marked. absurd (false≢true (sym (clear q (omega arith)) ∙ marked));
  quiet = λ q not. refl;
  clear = clear;
  size = size;
}

marked_there : (failed : List Bool) (m q : ℕ) → q ≢ m → is_marked (slice_set failed m true) q ≡ is_marked failed q
marked_there failed m q other = get_or-set_other failed m q true false other

marked_here : (failed : List Bool) (m q : ℕ) → q ≡ m → m < length failed → is_marked (slice_set failed m true) q ≡ true
marked_here failed m q same within = ap (λ (p : ℕ). is_marked (slice_set failed m true) p) same ∙ get_or-set_same failed m true false within

module _ {R : Type 0} (rack : Ghosts R) (start mid now : R) (table : List (Option Label)) (greatest m : ℕ) (old new : List Bool) where
  labels_on : AreLabeled rack mid table → LeavesRead rack mid now → AreLabeled rack now table
  labels_on labeled leaves q low = by_label (label_at table q) (labeled q low)
    where
      by_label : (found : Option Label) → IfSome found (IsLabeledBy rack mid q) → IfSome found (IsLabeledBy rack now q)
      by_label None is = tt
      by_label (Some label) is = labeled_on rack mid now q label is leaves

  pub says_none_on : (q : ℕ) (label : Label) → SaysNone rack start mid q label → LeavesRead rack mid now → SaysNone rack start now q label
  says_none_on q label none leaves = elim none [
    | inl failed ↦ inl (failed_on rack start mid now q failed leaves)
    | inr silent ↦ inr (told_on _ (rack.bytes mid q) (rack.bytes now q) (leaves.same q) silent)
  ]

  pub none_on : (count : ℕ) → SayNone rack start mid table greatest count → LeavesRead rack mid now → SayNone rack start now table greatest count
  none_on count none leaves q label low number = says_none_on q label (none q label low number) leaves

  pub stands_still : m < 32 → length old ≡ 32 → StandBut rack mid table old → ReadsOne rack m mid now → Marks rack mid now table m old new → StandBut rack now table new
  stands_still within size stand reads marks q low some clear = elim marks [
    | inl kept ↦ elim (cases_eq q m) [
      | inl same ↦ subst (λ (p : ℕ). rack.stands now p ≡ true) (sym same) (kept.1 (subst (λ (p : ℕ). IsSome (label_at table p)) same some))
      | inr other ↦ reads.others_stand q other (stand q low some (ap (λ (f : List Bool). is_marked f q) (sym kept.0) ∙ clear))
    ]
    | inr set_now ↦ elim (cases_eq q m) [
      | inl same ↦ absurd (false≢true (sym clear ∙ ap (λ (f : List Bool). is_marked f q) set_now.0 ∙ marked_here old m q same (omega arith)))
      | inr other ↦ reads.others_stand q other (stand q low some (sym (marked_there old m q other) ∙ ap (λ (f : List Bool). is_marked f q) (sym set_now.0) ∙ clear))
    ]
  ]

  pub fails_still : AreFailed rack start mid old → LeavesRead rack start mid → ReadsOne rack m mid now → Marks rack mid now table m old new → AreFailed rack start now new
  fails_still fails early reads marks q marked = elim marks [
    | inl kept ↦ failed_on rack start mid now q (fails q (ap (λ (f : List Bool). is_marked f q) (sym kept.0) ∙ marked)) reads.leaves
    | inr set_now ↦ elim (cases_eq q m) [
      | inl same ↦ failed_before rack start mid now q early (subst (λ (p : ℕ). HasFailed rack mid now p) (sym same) set_now.1)
      | inr other ↦ failed_on rack start mid now q (fails q (sym (marked_there old m q other) ∙ ap (λ (f : List Bool). is_marked f q) (sym set_now.0) ∙ marked)) reads.leaves
    ]
  ]

  pub quiet_still : m < 32 → length old ≡ 32 → QuietBut rack start mid old → ReadsOne rack m mid now → Marks rack mid now table m old new → QuietBut rack start now new
  quiet_still within size quiet reads marks q clear = elim marks [
    | inl kept ↦
        let was = quiet q (ap (λ (f : List Bool). is_marked f q) (sym kept.0) ∙ clear) in
        elim (cases_eq q m) [
          | inl same ↦ subst (λ (p : ℕ). HasNotFailed rack mid now p) (sym same) kept.2 ∙ was
          | inr other ↦ reads.other_faults q other ∙ was
        ]
    | inr set_now ↦ elim (cases_eq q m) [
      | inl same ↦ absurd (false≢true (sym clear ∙ ap (λ (f : List Bool). is_marked f q) set_now.0 ∙ marked_here old m q same (omega arith)))
      | inr other ↦
          reads.other_faults q other ∙ quiet q (sym (marked_there old m q other) ∙ ap (λ (f : List Bool). is_marked f q) (sym set_now.0) ∙ clear)
    ]
  ]

  clear_still : NoneMarked old m → Marks rack mid now table m old new → NoneMarked new (m + 1)
  clear_still clear marks q low = elim marks [
    | inl kept ↦ ap (λ (f : List Bool). is_marked f q) kept.0 ∙ clear q (omega arith)
    | inr set_now ↦ ap (λ (f : List Bool). is_marked f q) set_now.0 ∙ marked_there old m q (λ e. omega (arith, e)) ∙ clear q (omega arith)
  ]

  -- one member more was read, and says none
  pub walked_one : m < 32 → length new ≡ 32 → Walked rack start mid table greatest old m → ReadsOne rack m mid now → Marks rack mid now table m old new
      → SaysAt rack mid now table greatest m None → Walked rack start now table greatest new (m + 1)
  walked_one within size walked reads marks says = record {
    leaves = reads_both rack start mid now walked.leaves reads.leaves;
    labeled = labels_on walked.labeled reads.leaves;
    none = λ q label low number. elim (cases_eq q m) [
      | inl same ↦
          let here = says label (subst (λ (p : ℕ). HasNumber table greatest p label) same number) in
          subst (λ (p : ℕ). SaysNone rack start now p label) (sym same) (elim here [
            | inl failed ↦ inl (failed_before rack start mid now m walked.leaves failed)
            | inr silent ↦ inr silent
          ])
      | inr other ↦ says_none_on q label (walked.none q label (omega arith) number) reads.leaves
    ];
    stand = stands_still within walked.size walked.stand reads marks;
    fails = fails_still walked.fails walked.leaves reads marks;
    quiet = quiet_still within walked.size walked.quiet reads marks;
    clear = clear_still walked.clear marks;
    size = size;
  }

  -- the member that comes next says a state
  pub is_first : (source : Source) → m < 32 → Walked rack start mid table greatest old m → ReadsOne rack m mid now → SaysAt rack mid now table greatest m (Some source)
      → IsFirst rack start now table greatest source
  is_first source within walked reads says = record {
    q = m;
    within = within;
    number = says.0;
    says = says.1;
    first = none_on m walked.none reads.leaves;
  }
