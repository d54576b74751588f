-- What is told of the paths of marked files, by what was told of the listing.
use Rattle.std.proofs.Common.{◌≡◌, ◌∙◌, ◌+◌, ◌<◌, ◌≤◌, ◌++◌, ℕ, Bool, List, [], inl, inr, refl, sym, ap, subst, arith}
use Rattle.std.specs.Prelude.{Option, Some, Result, Ok, length}
use Rattle.dg_model.specs.Causes.{Rose}
use Rattle.dg_model.specs.Paths.{PathOf}
use Rattle.ufs_model.specs.Listings.{Listed}
use Rattle.ufs_model.specs.declared.reads.PathRefusal.{PathRefusal}
use Rattle.ufs_path.specs.Answers.{IsAnswer}
use Rattle.ufs_path.specs.Consults.{IsUnanswered, StaysUnlessFailed}
use Rattle.ufs_path.specs.PathListLaws.{from_both}
use Rattle.ufs_path.specs.PathLists.{HandsPaths, IsBegun, ReadsMarked, TookMarked, TookMarkedPart, WantedAt, marked_among, marked_from, names_after, told_of}
use Rattle.ufs_path.specs.Trees.{HandsSome}
use Rattle.ufs_path.specs.declared.faults.CatAnswer.{CatAnswer}
use Rattle.ufs_path.specs.declared.faults.CatAnswer.TheVariants.{Given, NotFound, NotDirectory, Bad, Unavailable, NotRegular, Cut, SinkFault}
use Rattle.ufs_path.specs.declared.marked_paths.MarkedPaths.{MarkedPaths}

module _ {O : Type 0} (took took_part : O → List PathOf → O → Type 0) (faults : O → ℕ) (marks : List Bool) (out : O) (old new : MarkedPaths O) (begun : IsBegun old marks out) (reads : Option (Result (List Listed) PathRefusal) → Type 0) where
  -- as the listing has it
  abbrev pub Listing : CatAnswer → Type 0
  Listing answer = IsAnswer (TookMarked took took_part faults) (TookMarkedPart took took_part faults) (λ (s : MarkedPaths O). faults s.out.now + s.wants) old new reads answer

  -- what was handed on from the start
  record Started (entries : List Listed) : Type 0 where
    lines : took out (marked_among marks entries) new.out.now
    count : length (marked_among marks entries) ≡ new.given
    unwanted : new.wants ≡ 0
    still : faults new.out.now ≡ faults out

  started : (entries : List Listed) → TookMarked took took_part faults old entries new → Started entries
  started entries all =
      let h = all.handed [] begun.names_are in
      let same : marked_among old.marks.now entries ≡ marked_among marks entries = ap (λ m. marked_among m entries) begun.marks_are in record {
        lines = subst (λ (o : O). took o (marked_among marks entries) new.out.now) begun.out_is (subst (λ (l : List PathOf). took old.out.now l new.out.now) same h.took_all);
        count = let given = h.given in let none = begun.given in let long = ap length same in omega (arith, given, none, long);
        unwanted = all.wants ∙ begun.wants;
        still = all.kept ∙ ap faults begun.out_is;
      }

  stays_out : new ≡ old → new.out.now ≡ out
  stays_out same = ap (λ s. s.out.now) same ∙ begun.out_is

  none_wanted : new ≡ old → new.wants ≡ 0
  none_wanted same = ap (λ s. s.wants) same ∙ begun.wants

  -- the paths of some first entries are first paths
  reads_front : (front rest : List Listed) → reads (Some (Ok (front ++ rest)))
      → ReadsMarked reads marks (Some (Ok (marked_among marks front ++ marked_from marks (names_after [] front) rest)))
  reads_front front rest read = (front ++ rest, sym (from_both marks [] front rest), read)

  -- what was handed on where the receiver failed, or memory was wanting
  front_of : (entries : List Listed) → WantedAt took took_part faults old new [] entries → reads (Some (Ok entries)) → HandsPaths took out new.out.now (ReadsMarked reads marks)
  front_of entries wanted read =
      let same : marked_among old.marks.now wanted.front ≡ marked_among marks wanted.front = ap (λ m. marked_among m wanted.front) begun.marks_are in
      inr (
        marked_among marks wanted.front,
        marked_from marks (names_after [] wanted.front) wanted.rest,
        subst (λ (o : O). took o (marked_among marks wanted.front) new.out.now) begun.out_is (subst (λ (l : List PathOf). took old.out.now l new.out.now) same wanted.took_front),
        reads_front wanted.front wanted.rest (subst (λ (l : List Listed). reads (Some (Ok l))) wanted.split read),
      )

  -- ---- where memory isn't wanting

  rose_in : Rose (faults old.out.now + old.wants) (faults new.out.now + new.wants) → new.wants ≡ 0 → Rose (faults out) (faults new.out.now)
  rose_in rose none =
      let was = begun.wants in
      let first = ap faults begun.out_is in
      subst (λ (k : ℕ). Rose k (faults new.out.now)) first
      (subst (λ (k : ℕ). Rose (faults old.out.now) k) (omega (arith, none)) (subst (λ (k : ℕ). Rose k (faults new.out.now + new.wants)) (omega (arith, was)) rose))

  failed_part : (entries : List Listed) → TookMarkedPart took took_part faults old entries new → new.wants ≡ 0 → took_part out (marked_among marks entries) new.out.now
  failed_part entries part none =
      elim (part.broke [] begun.names_are) [
        | inl failed ↦
            subst (λ (o : O). took_part o (marked_among marks entries) new.out.now) begun.out_is
            (subst (λ (m : List Bool). took_part old.out.now (marked_among m entries) new.out.now) begun.marks_are failed.took_some)
        | inr wanted ↦ let some = wanted.some in let no : ⊥ = omega (arith, some, none) in absurd no
      ]

  pub marked_answer : (answer : CatAnswer) → Listing answer → new.wants ≡ 0 → IsAnswer took took_part faults out new.out.now (ReadsMarked reads marks) (told_of new.given answer)
  marked_answer (Given n) rule none =
      let all = started (rule.0) rule.2 in
      (marked_among marks (rule.0), all.count, all.lines, (rule.0, refl, rule.3))
  marked_answer NotFound rule none = (stays_out rule.0, rule.1)
  marked_answer NotDirectory rule none = (stays_out rule.0, rule.1)
  marked_answer (Bad bad) rule none = (stays_out rule.0, rule.1)
  marked_answer Unavailable rule none = (stays_out rule.0, rule.1)
  marked_answer NotRegular rule none = (stays_out rule.0, rule.1)
  marked_answer (Cut n) rule none =
      let all = started (rule.0) rule.3 in
      (marked_among marks (rule.0), marked_from marks (names_after [] (rule.0)) (rule.1), all.count, all.lines, reads_front (rule.0) (rule.1) rule.4, rule.5)
  marked_answer SinkFault rule none =
      (marked_among marks (rule.0), failed_part (rule.0) rule.1 none, (rule.0, refl, rule.2), rose_in rule.3 none)

  -- ---- where it is

  -- what stands then
  pub record Wanted : Type 0 where
    pub part : HandsPaths took out new.out.now (ReadsMarked reads marks)
    pub still : faults new.out.now ≡ faults out
    pub same : new.out.ghost_name ≡ old.out.ghost_name

  not_wanted : {P : Type 0} → new.wants ≡ 0 → 0 < new.wants → P
  not_wanted none some = let no : ⊥ = omega (arith, none, some) in absurd no

  pub marked_wanted : (answer : CatAnswer) → Listing answer → 0 < new.wants → Wanted
  marked_wanted (Given n) rule some = not_wanted ((started (rule.0) rule.2).unwanted) some
  marked_wanted NotFound rule some = not_wanted (none_wanted rule.0) some
  marked_wanted NotDirectory rule some = not_wanted (none_wanted rule.0) some
  marked_wanted (Bad bad) rule some = not_wanted (none_wanted rule.0) some
  marked_wanted Unavailable rule some = not_wanted (none_wanted rule.0) some
  marked_wanted NotRegular rule some = not_wanted (none_wanted rule.0) some
  marked_wanted (Cut n) rule some = not_wanted ((started (rule.0) rule.3).unwanted) some
  marked_wanted SinkFault rule some =
      elim ((rule.1).broke [] begun.names_are) [
        | inl failed ↦ not_wanted (failed.wants ∙ begun.wants) some
        | inr wanted ↦ record { part = front_of (rule.0) wanted rule.2; still = wanted.kept ∙ ap faults begun.out_is; same = (rule.1).same }
      ]

  -- the listing wanted memory
  pub marked_unread : HandsSome (TookMarked took took_part faults) old new reads → Wanted
  marked_unread (inl same) = record { part = inl (stays_out same); still = ap faults (stays_out same); same = ap (λ s. s.out.ghost_name) same }
  marked_unread (inr (front, rest, all, read)) =
      let first = started front all in record {
        part = inr (marked_among marks front, marked_from marks (names_after [] front) rest, first.lines, reads_front front rest read);
        still = first.still;
        same = all.same;
      }

  -- ---- the receiver is the one that was lent

  pub marked_same : (answer : CatAnswer) → Listing answer → new.out.ghost_name ≡ old.out.ghost_name
  marked_same (Given n) rule = (rule.2).same
  marked_same NotFound rule = ap (λ s. s.out.ghost_name) rule.0
  marked_same NotDirectory rule = ap (λ s. s.out.ghost_name) rule.0
  marked_same (Bad bad) rule = ap (λ s. s.out.ghost_name) rule.0
  marked_same Unavailable rule = ap (λ s. s.out.ghost_name) rule.0
  marked_same NotRegular rule = ap (λ s. s.out.ghost_name) rule.0
  marked_same (Cut n) rule = (rule.3).same
  marked_same SinkFault rule = (rule.1).same

  -- ---- counts of faults, and what wasn't answered

  pub marked_stays : (answer : CatAnswer) → Listing answer → new.wants ≡ 0 → StaysUnlessFailed answer (faults old.out.now + old.wants) (faults new.out.now + new.wants)
      → StaysUnlessFailed (told_of new.given answer) (faults out) (faults new.out.now)
  marked_stays (Given n) rule none stays = (started (rule.0) rule.2).still
  marked_stays NotFound rule none stays = ap faults (stays_out rule.0)
  marked_stays NotDirectory rule none stays = ap faults (stays_out rule.0)
  marked_stays (Bad bad) rule none stays = ap faults (stays_out rule.0)
  marked_stays Unavailable rule none stays = ap faults (stays_out rule.0)
  marked_stays NotRegular rule none stays = ap faults (stays_out rule.0)
  marked_stays (Cut n) rule none stays = (started (rule.0) rule.3).still
  marked_stays SinkFault rule none stays = tt

  pub marked_later : faults old.out.now + old.wants ≤ faults new.out.now + new.wants → new.wants ≡ 0 → faults out ≤ faults new.out.now
  marked_later later none =
      let was = begun.wants in
      let first = ap faults begun.out_is in
      omega (arith, later, none, was, first)

  pub marked_unanswered : (answer : CatAnswer) → IsUnanswered (told_of new.given answer) → IsUnanswered answer
  marked_unanswered (Given n) h = h
  marked_unanswered NotFound h = h
  marked_unanswered NotDirectory h = h
  marked_unanswered (Bad bad) h = h
  marked_unanswered Unavailable h = h
  marked_unanswered NotRegular h = h
  marked_unanswered (Cut n) h = h
  marked_unanswered SinkFault h = h
