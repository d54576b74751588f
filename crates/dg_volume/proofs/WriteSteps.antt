-- A volume makes a step by a write of a block.
use Rattle.std.proofs.Common.{◌≡◌, ◌∙◌, ◌<◌, ◌≤◌, ◌+◌, ◌*◌, ◌/◌, ℕ, Bool, true, false, List, [], ◌∷◌, length, refl, sym, ap, subst, arith, inl, inr, rules}
use Rattle.std.specs.Prelude.{Option, Some, None, IfSome, if◌then◌else◌, max, slice_set}
use Rattle.std.specs.List.{All, Contains}
use Rattle.std.proofs.lemmas.List.{length-set}
use Rattle.std.proofs.lemmas.List.Sums.{count_by-le-length}
use Rattle.std.proofs.lemmas.Bool.{and_parts, false≢true}
use Rattle.dg_infer.specs.Meanings.{KeptInference}
use Rattle.dg_infer.specs.Meanings as inferences
use Rattle.dg_io.specs.Told.{StillTold}
use Rattle.dg_io.specs.declared.outside.Rack.{Ghosts}
use Rattle.dg_label.specs.Labels.{IsKeptOf}
use Rattle.dg_label.specs.declared.labels.KeptLabel.{KeptLabel}
use Rattle.dg_model.proofs.MemberLaws.{NoneRecovers, falls_both, good_was, has_lost_at, none_back}
use Rattle.dg_model.specs.Blocks.{padded}
use Rattle.dg_model.specs.Causes.{NoneRose}
use Rattle.dg_model.specs.Changes.{WritesFew, phase_after, seal_calls}
use Rattle.dg_model.specs.Marks.{AreLeft, AreNext, with_mark}
use Rattle.dg_model.specs.Members.{MembersFall, is_filling, is_good, is_lost}
use Rattle.dg_model.specs.Openings.{FitsReduced, Reduced}
use Rattle.dg_model.specs.Rereads.{IsBeside as IsBesideBlock, IsChangedAt, Rereads, count_read}
use Rattle.dg_model.specs.Saves.{AreHomes}
use Rattle.dg_model.specs.Seals.{LastLabel}
use Rattle.dg_model.specs.Sites.{IsSited, all_lost, has_site, is_gone}
use Rattle.dg_model.specs.States.{CountsRise, State, has_lost}
use Rattle.dg_model.specs.Steps.{Step}
use Rattle.dg_model.specs.Tables.{IsTable, Table, sites_in}
use Rattle.dg_model.specs.declared.events.Event.TheVariants.{Write}
use Rattle.dg_model.specs.declared.homes.Home.{Home}
use Rattle.dg_model.specs.declared.members.MemberState.{MemberState}
use Rattle.dg_model.specs.declared.members.MemberState.TheVariants.{Filling, Good, Out}
use Rattle.dg_model.specs.declared.phases.Phase.{Phase}
use Rattle.dg_model.specs.declared.phases.Phase.TheVariants.{Loose as LoosePhase, Settled as SettledPhase, Worn as WornPhase}
use Rattle.dg_model.specs.declared.replies.Reply.TheVariants.{Degraded, Done, Range}
use Rattle.dg_model.specs.declared.shapes.Shape.{Shape}
use Rattle.dg_model.specs.declared.sites.Site.{Site}
use Rattle.dg_store.specs.Answers.{IsAllLost, SameWritten}
use Rattle.dg_store.specs.Leaves.{CallsAtMost, CallsBelow, NoFault}
use Rattle.dg_store.specs.Stores.{IsSound, KeepsBlocks}
use Rattle.dg_store.specs.ReadLaws.{own_none, rack_none, rises_both}
use Rattle.dg_store.specs.Stores as stores
use Rattle.dg_store.specs.Views.{Fetches, ReadsOn, is_written}
use Rattle.dg_store.specs.declared.store.Store.{Store}
use Rattle.dg_volume.proofs.BlankLaws.{no_homes}
use Rattle.dg_volume.proofs.FaultLaws.{falls_out, keeps_outs, keeps_tells, outs_both, own_then, tells_both, tells_same}
use Rattle.dg_volume.proofs.LabelLaws.{relabels_none, relabels_then, slots_kept}
use Rattle.dg_volume.proofs.MoveSteps.{loose_not_settled, loose_not_worn}
use Rattle.dg_volume.proofs.PlaceLaws.{fits_written}
use Rattle.dg_volume.proofs.UseLaws.{fits_same}
use Rattle.dg_volume.proofs.VolumeLaws.{IsBeside, Keeps, Labels, kept_state, label_by, labeled_by, leaves, line_same, lost_on, on_label, same_in, stays, steps_from, still_in, under_by}
use Rattle.dg_volume.specs.Origins.{WasHeld}
use Rattle.dg_volume.specs.Faults.{OutsStay, TellsFaults}
use Rattle.dg_volume.specs.Seals.{FallsOn, HasStoredBlock, Relabels, opening_calls}
use Rattle.dg_volume.specs.Volumes.{FitsArray, HasLabel, IsWell, Known, Leaves, StandsFor, StandsIn, StandsUnder, Tells, cut_of, given_of, line_of, live_of, marks_by, marks_of, members_of, rack_of, reduced_of, shape_of, state_of, table_of}
use Rattle.dg_volume.specs.Writes.{IsFollowed, RereadsFew, WritesTo}
use Rattle.dg_volume.specs.declared.in_use.InUse.{InUse}
use Rattle.dg_volume.specs.declared.phases.InPhase as phases
use Rattle.dg_volume.specs.declared.volumes.Volume.{Volume}

-- ---- lost boundaries

-- where no count of faults rose, a good member is good still
good_still : (f g : ℕ → ℕ) (old new : ℕ → MemberState) → NoneRose f g → MembersFall f g old new → NoneRecovers new old
good_still f g old new none falls q good = elim (falls q) [
  | inl same ↦ ap is_good same ∙ good
  | inr fell ↦ elim fell.caused [ inl rose ↦ absurd (none q rose) | inr left ↦ absurd (not_both (old q) good left.0) ]
]
  where
    not_both : (m : MemberState) → is_good m ≡ true → is_filling m ≡ true → ⊥
    not_both Good good filling = false≢true filling
    not_both (Filling have) good filling = false≢true good
    not_both Out good filling = false≢true good

-- where no count of faults rose and no boundary was lost, none is lost
pub whole_still : (f g : ℕ → ℕ) (shape : Shape) (old new : ℕ → MemberState) → NoneRose f g → MembersFall f g old new → has_lost shape old ≡ false → has_lost shape new ≡ true → ⊥
whole_still f g shape old new none falls whole lost =
    false≢true (sym whole ∙ lost_on shape new old (good_still f g old new none falls) lost)

contains_first : {X : Type 0} (x : X) (xs : List X) → Contains (x ∷ xs) x
contains_first x xs = (0, omega arith, refl)

first_lost : (table : Table) (members : ℕ → MemberState) (b : ℕ) (sites : List Site) → sites ≡ sites_in table b → IsTable table → has_site sites ≡ true → all_lost members sites ≡ true
    → has_lost table.shape members ≡ true
first_lost table members b [] is of has lost = absurd (false≢true has)
first_lost table members b (site ∷ sites) is of has lost =
    let parts = and_parts (is_lost members site.boundary) (all_lost members sites) lost in
    has_lost_at table.shape members site.boundary (of.boundaries b site.boundary site.slot (subst (λ (xs : List Site). Contains xs site) is (contains_first site sites))) parts.0

-- a block that is gone stands on a lost boundary
pub gone_lost : (table : Table) (members : ℕ → MemberState) (b : ℕ) → IsTable table → is_gone table members b ≡ true → has_lost table.shape members ≡ true
gone_lost table members b of gone =
    let parts = and_parts (has_site (sites_in table b)) (all_lost members (sites_in table b)) gone in
    first_lost table members b (sites_in table b) refl of parts.0 parts.1

-- ---- marks

next_along : (lost : Bool) (J K : Type 0) (l n : ℕ) (V : List (List ℕ)) (old new : List Bool) → (J → K) → AreNext lost K l n V old new → AreNext lost J l n V old new
next_along true J K l n V old new along next = next
next_along false J K l n V old new along next = record { size = next.size; fewer = next.fewer; are = λ known. next.are (along known) }

next_size : (lost : Bool) (K : Type 0) (l n : ℕ) (V : List (List ℕ)) (old new : List Bool) → AreNext lost K l n V old new → length new ≡ length old
next_size true K l n V old new next = ap length next
next_size false K l n V old new next = next.size

-- ---- calls

-- those that open a seal, by what is kept of the label
opening_is : (last : Option LastLabel) (kept : Option KeptLabel) (members : ℕ) → IsKeptOf last kept → opening_calls kept members ≡ seal_calls last members
opening_is None None members is = refl
opening_is None (Some kept) members is = absurd is
opening_is (Some last) None members is = absurd is
opening_is (Some last) (Some kept) members is = ap (λ (s : Bool). if s then members else 0) (sym is.sealed)

calls_under : (last : Option LastLabel) (kept : Option KeptLabel) → IsKeptOf last kept → (now was members own read : ℕ) → now ≤ was + (opening_calls kept members + own + read)
    → now ≤ was + (seal_calls last members + own) + read
calls_under last kept is now was members own read few = let same = opening_is last kept members is in omega (arith, same, few)

refused_under : (last : Option LastLabel) (kept : Option KeptLabel) → IsKeptOf last kept → (now was members own : ℕ) → now ≤ was + (opening_calls kept members + own)
    → now ≤ was + (seal_calls last members + own)
refused_under last kept is now was members own few = let same = opening_is last kept members is in omega (arith, same, few)

-- ---- the label

-- a write was followed by reads
pub labels_followed : {R : Type 0} (rack : Ghosts R) (line : Shape) (a m c : Store R) (before after : Option KeptLabel) → Relabels rack line a m before after → ReadsOn rack m c
    → Relabels rack line a c before after
labels_followed rack line a m c before after first reads = relabels_then rack line a m c before after first (slots_kept rack a m c reads.keeps) (λ closed. reads.writes)

-- ---- phases

after_worn : (lost : Bool) (p : Phase) → p ≡ phase_after lost → p ≡ WornPhase → lost ≡ true
after_worn true p is worn = refl
after_worn false p is worn = cc

after_settled : (lost : Bool) (p : Phase) → p ≡ phase_after lost → p ≡ SettledPhase → ⊥
after_settled true p is settled = cc
after_settled false p is settled = cc

-- ---- what is read again

-- nothing
none_read : (Known : Type 0) (l n : ℕ) (V W : List (List ℕ)) (b : ℕ) → Rereads Known l n V W b
none_read Known l n V W b = record { indirect = []; indirect_once = search rules; changed = λ known. search rules; beside = []; beside_once = search rules; are_beside = λ known. search rules; others = λ known. search rules }

-- one fetch for each block
pub reread_few : {R : Type 0} (rack : Ghosts R) (Known J : Type 0) (l n : ℕ) (old new : Store R) (V W : List (List ℕ)) (b : ℕ) (blocks : List ℕ) → l ≡ (stores.shape_of old).l → n ≡ (stores.shape_of old).n → (J → Known)
    → (reads : Rereads Known l n V W b) → Fetches rack old blocks new → length blocks ≡ count_read reads → RereadsFew rack J old new V W b
reread_few rack Known J l n old new V W b blocks l_is n_is along reads were count = record {
  rereads = record {
    indirect = reads.indirect;
    indirect_once = reads.indirect_once;
    changed = λ j. subst (λ (x : ℕ). All (IsChangedAt x (stores.shape_of old).n V W) reads.indirect) l_is (subst (λ (x : ℕ). All (IsChangedAt l x V W) reads.indirect) n_is (reads.changed (along j)));
    beside = reads.beside;
    beside_once = reads.beside_once;
    are_beside = λ j. subst (λ (x : ℕ). All (IsBesideBlock x (stores.shape_of old).n V W b) reads.beside) l_is (subst (λ (x : ℕ). All (IsBesideBlock l x V W b) reads.beside) n_is (reads.are_beside (along j)));
    others = λ j. reads.others (along j);
  };
  few = λ none.
      let rose = were.few none in
      let most = count_by-le-length (is_written (stores.table_of old)) blocks in
      omega (arith, rose, most, count);
}

-- block b is cut no more, and the same boundaries are in use
pub record Uncuts {S T R : Type 0} (a : Volume S R) (b : ℕ) (c : Volume T R) : Type 0 where
  pub boundaries : c.in_use.boundaries ≡ a.in_use.boundaries
  pub long : c.in_use.long ≡ a.in_use.long
  pub live : c.in_use.live ≡ a.in_use.live
  pub cut : cut_of c ≡ slice_set (cut_of a) b false

-- it has a site
pub uncut_in_use : {S T R : Type 0} (a : Volume S R) (c : Volume T R) (b : ℕ) → shape_of c ≡ shape_of a → b < (shape_of a).n → IsSited (table_of a) b (table_of c) → Uncuts a b c
    → FitsReduced (table_of a) (reduced_of a) → FitsReduced (table_of c) (reduced_of c)
uncut_in_use a c b shape within sited h fits =
    let now : record (reduced_of a) { cut = slice_set (cut_of a) b false } ≡ reduced_of c =
    λ i. record { boundaries = sym h.boundaries i; live = (sym h.live i).items; cut = sym h.cut i } in
    subst (λ (r : Reduced). FitsReduced (table_of c) r) now (fits_written (table_of a) (table_of c) (reduced_of a) b shape within sited fits)

module _ {S T R : Type 0} (from : phases.Ghosts S) (to : phases.Ghosts T) (rack : Ghosts R) where
  -- ---- what is left

  -- a volume of the same array, in a phase that isn't settled
  pub record IsLeft (a : Volume S R) (c : Volume T R) : Type 0 where
    pub sound : IsSound rack c.store
    pub shape : shape_of c ≡ shape_of a
    pub rise : CountsRise (rack.counts (rack_of a)) (rack.counts (rack_of c))
    pub tells : StillTold (rack.bytes (rack_of a)) (rack.bytes (rack_of c))
    pub told_before : (q : ℕ) → rack.tells (rack_of c) q → rack.tells (rack_of a) q
    pub own : CallsBelow rack (shape_of a).b (rack_of a) (rack_of c)
    pub same_rack : rack.name (rack_of c) ≡ rack.name (rack_of a)
    pub levels : c.levels.fragment ≡ a.levels.fragment
    pub boundaries : c.in_use.boundaries ≡ a.in_use.boundaries
    pub live : live_of c ≡ live_of a
    pub line : line_of c ≡ line_of a
    pub homes : c.homes ≡ a.homes
    pub copies : AreHomes (shape_of a) c.copies
    pub marks : length (marks_of to c) ≡ length (marks_of from a)
    pub fits : IfSome (to.kept c.phase) (FitsArray (shape_of a))
    pub labeled : HasLabel rack c
    pub in_use : FitsReduced (table_of c) (reduced_of c)
    pub uncopied : c.copies ≡ []
    pub worn : to.phase c.phase ≡ WornPhase → has_lost (shape_of c) (members_of c) ≡ true
    pub settled : to.phase c.phase ≡ SettledPhase → ⊥

  pub left_leaves : (a : Volume S R) (c : Volume T R) → IsWell from rack a → IsLeft a c → Leaves from to rack a c
  left_leaves a c well h = record {
    well = record {
      array = h.sound;
      levels = h.levels ∙ well.levels ∙ sym (ap (λ (x : Shape). x.l) h.shape);
      marks = h.marks ∙ well.marks ∙ sym (ap (λ (x : Shape). x.n) h.shape);
      inferred = subst (λ (x : Shape). IfSome (to.kept c.phase) (FitsArray x)) (sym h.shape) h.fits;
      labeled = h.labeled;
      in_use = h.in_use;
      long = let less = well.long in let long : c.in_use.long ≡ a.in_use.long = ap (λ (x : Shape). x.b) h.line in omega (arith, less, long, h.boundaries);
      homes_are = subst (λ (x : Shape). AreHomes x c.homes) (sym h.shape) (subst (λ (x : List Home). AreHomes (shape_of a) x) (sym h.homes) well.homes_are);
      few_homes = subst (λ (x : Shape). length c.homes ≤ x.n) (sym h.shape) (subst (λ (x : List Home). length x ≤ (shape_of a).n) (sym h.homes) well.few_homes);
      copies_are = subst (λ (x : Shape). AreHomes x c.copies) (sym h.shape) h.copies;
      uncopied = λ unsettled. h.uncopied;
      worn = h.worn;
      settled = λ settled. absurd (h.settled settled);
    };
    shape = h.shape;
    boundaries = h.boundaries;
    live = h.live;
    line = h.line;
    rise = h.rise;
    tells = h.tells;
    told_before = h.told_before;
    own = h.own;
    same_rack = h.same_rack;
  }

  -- ---- a block that was written

  -- The array got the block's bytes, and then what the write gave reason to read was read: m is the array in between.
  pub record HasStored (a : Volume S R) (b : ℕ) (block : List ℕ) (m new : Store R) : Type 0 where
    pub within : b < (shape_of a).n
    pub whole : has_lost (shape_of a) (members_of a) ≡ false
    pub first : FallsOn rack a.store m
    pub stored : HasStoredBlock rack b block a.store m
    pub most : CallsAtMost rack a.store m (opening_calls a.label (2 * (shape_of a).b) + 2 * max 1 (length (sites_in (table_of a) b)))
    pub sound : IsSound rack new
    pub reads : ReadsOn rack m new
    pub stands : KeepsBlocks rack m new

  -- the volume stood for V, and tells its bytes in the end
  pub record IsOver (a : Volume S R) (c : Volume T R) (V : List (List ℕ)) : Type 0 where
    pub tells : Tells rack c
    pub held : StandsFor from rack a V

  -- where no fault came, the write made no more calls than these, and one for each block that it gave reason to read
  pub record CallsFew (a : Volume S R) (b : ℕ) (c : Volume T R) (V W : List (List ℕ)) : Type 0 where
    pub rereads : Rereads (IsOver a c V) (shape_of a).l (shape_of a).n V W b
    pub most : NoFault rack a.store c.store
        → CallsAtMost rack a.store c.store (opening_calls a.label (2 * (shape_of a).b) + 2 * max 1 (length (sites_in (table_of a) b)) + count_read rereads)

  -- a volume after a write
  pub record HasWritten (a : Volume S R) (b : ℕ) (block : List ℕ) (m : Store R) (c : Volume T R) : Type 0 where
    pub array : HasStored a b block m c.store
    pub levels : c.levels.fragment ≡ a.levels.fragment
    pub homes : c.homes ≡ a.homes
    pub copies : c.copies ≡ []
    pub boundaries : c.in_use.boundaries ≡ a.in_use.boundaries
    pub long : c.in_use.long ≡ a.in_use.long
    pub live : c.in_use.live ≡ a.in_use.live
    pub cut : cut_of c ≡ slice_set (cut_of a) b false
    pub phase_is : to.phase c.phase ≡ phase_after (has_lost (shape_of c) (members_of c))
    pub fits : IfSome (to.kept c.phase) (FitsArray (shape_of a))
    pub inferred : (V : List (List ℕ)) → IsOver a c V → IfSome (to.kept c.phase) (λ kept. inferences.StandsFor kept (slice_set V b block))
    pub marks : (V : List (List ℕ)) → AreNext (has_lost (shape_of c) (members_of c)) (IsOver a c V) (shape_of a).l (shape_of a).n (slice_set V b block) (with_mark (marks_of from a) b) (marks_of to c)
    pub few : (V : List (List ℕ)) → CallsFew a b c V (slice_set V b block)
    pub labeled : HasLabel rack a
    pub labels : Labels rack a c

  line_written : (a : Volume S R) (b : ℕ) (block : List ℕ) (m : Store R) (c : Volume T R) → HasWritten a b block m c → line_of c ≡ line_of a
  line_written a b block m c h = line_same a c h.long (h.array.reads.keeps.shape ∙ h.array.first.stays.shape)

  falls_on : (a : Volume S R) (b : ℕ) (block : List ℕ) (m new : Store R) → HasStored a b block m new
      → MembersFall (rack.counts (rack_of a)).faults (rack.counts (stores.rack_of new)).faults (members_of a) (stores.members_of new)
  falls_on a b block m new h =
      falls_both (rack.counts (rack_of a)).faults (rack.counts (stores.rack_of m)).faults (rack.counts (stores.rack_of new)).faults (members_of a) (stores.members_of m) (stores.members_of new)
      h.first.stays.stays.rise.faults h.reads.keeps.stays.rise.faults h.first.falls h.reads.keeps.falls

  rises_on : (a : Volume S R) (b : ℕ) (block : List ℕ) (m new : Store R) → HasStored a b block m new → CountsRise (rack.counts (rack_of a)) (rack.counts (stores.rack_of new))
  rises_on a b block m new h =
      let one = h.first.stays.stays.rise in
      let other = h.reads.keeps.stays.rise in
      record {
        faults = λ q. let x = one.faults q in let y = other.faults q in omega (arith, x, y);
        calls = omega (arith, one.calls, other.calls);
        writes = omega (arith, one.writes, other.writes);
      }

  faults_on : (a : Volume S R) (b : ℕ) (block : List ℕ) (m new : Store R) → HasStored a b block m new → TellsFaults rack a.store new
  faults_on a b block m new h =
      tells_both rack a.store m new h.first.stays.shape
      (falls_out (rack.counts (stores.rack_of m)).faults (rack.counts (stores.rack_of new)).faults (stores.members_of m) (stores.members_of new) h.reads.keeps.falls)
      h.first.faults (keeps_tells rack m new h.reads.keeps)

  outs_on : (a : Volume S R) (b : ℕ) (block : List ℕ) (m new : Store R) → HasStored a b block m new → OutsStay rack a.store new
  outs_on a b block m new h =
      outs_both rack a.store m new (falls_out (rack.counts (rack_of a)).faults (rack.counts (stores.rack_of m)).faults (members_of a) (stores.members_of m) h.first.falls)
      h.first.outs (keeps_outs rack m new h.reads.keeps)

  shape_on : (a : Volume S R) (b : ℕ) (block : List ℕ) (m new : Store R) → HasStored a b block m new → stores.shape_of new ≡ shape_of a
  shape_on a b block m new h = h.reads.keeps.shape ∙ h.first.stays.shape

  tells_on : (a : Volume S R) (b : ℕ) (block : List ℕ) (m new : Store R) → HasStored a b block m new → StillTold (rack.bytes (rack_of a)) (rack.bytes (stores.rack_of new))
  tells_on a b block m new h q told = h.first.stays.stays.tells q (h.reads.keeps.stays.tells q told)

  told_first : {P : Type 0} → (a : Volume S R) (b : ℕ) (block : List ℕ) (m new : Store R) → HasStored a b block m new → stores.TellsAll rack new × P → Known P rack a
  told_first a b block m new h known = (
    λ q below.
        h.first.stays.stays.told_before q (h.reads.keeps.stays.told_before q (known.0 q (subst (λ (s : Shape). q / 2 < s.b) (sym (shape_on a b block m new h)) below))),
    known.1,
  )

  written_in_use : (a : Volume S R) (b : ℕ) (block : List ℕ) (m : Store R) (c : Volume T R) → IsWell from rack a → HasWritten a b block m c → FitsReduced (table_of c) (reduced_of c)
  written_in_use a b block m c well h =
      uncut_in_use a c b (shape_on a b block m c.store h.array) h.array.within
      (subst (λ (t : Table). IsSited (table_of a) b t) (sym h.array.reads.table) h.array.stored.sited) (record { boundaries = h.boundaries; long = h.long; live = h.live; cut = h.cut }) well.in_use

  pub written_leaves : (a : Volume S R) (b : ℕ) (block : List ℕ) (m : Store R) (c : Volume T R) → IsWell from rack a → HasWritten a b block m c → Leaves from to rack a c
  written_leaves a b block m c well h =
      let lost = has_lost (shape_of c) (members_of c) in
      left_leaves a c well (record {
        sound = h.array.sound;
        shape = shape_on a b block m c.store h.array;
        rise = rises_both (rack.counts (rack_of a)) (rack.counts (stores.rack_of m)) (rack.counts (rack_of c)) h.array.first.stays.stays.rise h.array.reads.keeps.stays.rise;
        tells = tells_on a b block m c.store h.array;
        told_before = λ q told. h.array.first.stays.stays.told_before q (h.array.reads.keeps.stays.told_before q told);
        own = own_then rack a.store m c.store h.array.first.stays.shape h.array.first.stays.own h.array.reads.keeps.own;
        same_rack = h.array.reads.keeps.stays.same_rack ∙ h.array.first.stays.stays.same_rack;
        boundaries = h.boundaries;
        live = λ i. (h.live i).items;
        line = line_written a b block m c h;
        levels = h.levels;
        homes = h.homes;
        copies = subst (λ (x : List Home). AreHomes (shape_of a) x) (sym h.copies) (no_homes (shape_of a));
        marks = next_size lost (IsOver a c []) (shape_of a).l (shape_of a).n (slice_set [] b block) (with_mark (marks_of from a) b) (marks_of to c) (h.marks []) ∙ length-set (marks_of from a) b true;
        fits = h.fits;
        labeled = labeled_by rack a c (line_written a b block m c h) h.labels well.labeled;
        in_use = written_in_use a b block m c well h;
        uncopied = h.copies;
        worn = after_worn lost (to.phase c.phase) h.phase_is;
        settled = after_settled lost (to.phase c.phase) h.phase_is;
      })

  -- the state that it is in then
  abbrev written_state : (a : Volume S R) (b : ℕ) (block : List ℕ) (m : Store R) (c : Volume T R) → HasWritten a b block m c → State → List (List ℕ) → State
  written_state a b block m c h rest W = state_of to rack c (on_label a c h.labels.opens rest) W

  writes_few : {P : Type 0} → (a : Volume S R) (b : ℕ) (block : List ℕ) (m : Store R) (c : Volume T R) (rest : State) (V : List (List ℕ)) → StandsUnder rack a rest.label → (h : HasWritten a b block m c)
      → (Known P rack a → StandsFor from rack a V) → WritesFew (Known P rack c) (state_of from rack a rest V) b (written_state a b block m c h rest (slice_set V b block))
  writes_few {P = p} a b block m c rest V label h holds =
      let over : Known p rack c → IsOver a c V = λ told. record { tells = told.0; held = holds (told_first a b block m c.store h.array told) } in
      let few = h.few V in
      record {
        rereads = record {
          indirect = few.rereads.indirect;
          indirect_once = few.rereads.indirect_once;
          changed = λ told. few.rereads.changed (over told);
          beside = few.rereads.beside;
          beside_once = few.rereads.beside_once;
          are_beside = λ told. few.rereads.are_beside (over told);
          others = λ told. few.rereads.others (over told);
        };
        most = λ none. calls_under rest.label a.label label.kept (rack.counts (rack_of c)).calls (rack.counts (rack_of a)).calls (2 * (shape_of a).b)
            (2 * max 1 (length (sites_in (table_of a) b))) (count_read few.rereads) (few.most none);
      }

  stands_after : {P : Type 0} → (a : Volume S R) (b : ℕ) (block : List ℕ) (m : Store R) (c : Volume T R) (rest : State) (V : List (List ℕ)) → StandsUnder rack a rest.label → (h : HasWritten a b block m c)
      → (Known P rack a → StandsFor from rack a V) → StandsIn to rack P c (written_state a b block m c h rest (slice_set V b block))
  stands_after a b block m c rest V label h holds = record {
    is = refl;
    label = under_by rack a c (line_written a b block m c h) h.labels h.labeled rest.label label;
    holds = λ told.
        let held = holds (told_first a b block m c.store h.array told) in
        record { array = h.array.stands (slice_set V b block) (h.array.stored.sets V held.array); inferred = h.inferred V (record { tells = told.0; held = held }) };
  }

  written_step : {P : Type 0} → (a : Volume S R) (b : ℕ) (bytes : List ℕ) (m : Store R) (c : Volume T R) (rest : State) (V : List (List ℕ)) → StandsUnder rack a rest.label
      → (h : HasWritten a b (padded (shape_of a).l bytes) m c) → (Known P rack a → StandsFor from rack a V)
      → Step (Known P rack c) (state_of from rack a rest V) (Write b bytes) Done (written_state a b (padded (shape_of a).l bytes) m c h rest (slice_set V b (padded (shape_of a).l bytes)))
  written_step {P = p} a b bytes m c rest V label h holds =
      let block = padded (shape_of a).l bytes in
      let W = slice_set V b block in
      let array = h.array in
      let shape = shape_on a b block m c.store array in
      let faults = faults_on a b block m c.store array in (
        array.within,
        array.whole,
        record {
          goes = record {
            passes = record {
              counts = rises_on a b block m c.store array;
              label = label_by rack a c h.labels rest.label label;
              paired = array.sound.paired;
              faults = record { fell = faults.fell; beyond = faults.beyond };
            };
            members = falls_on a b block m c.store array;
            out = outs_on a b block m c.store array;
          };
          sited = subst (λ (t : Table). IsSited (table_of a) b t) (sym array.reads.table) array.stored.sited;
          few = writes_few a b block m c rest V label h holds;
          marks = next_along (has_lost (shape_of c) (members_of c)) (Known p rack c) (IsOver a c V) (shape_of a).l (shape_of a).n W (with_mark (marks_of from a) b) (marks_of to c)
              (λ told. record { tells = told.0; held = holds (told_first a b block m c.store array told) }) (h.marks V);
          rest = λ i. record (on_label a c h.labels.opens rest) {
            boundaries = h.boundaries i;
            live = (h.live i).items;
            table = table_of c;
            blocks = W;
            pending = marks_of to c;
            cut = h.cut i;
            homes = h.homes i;
            copies = h.copies i;
            phase = h.phase_is i;
            members = members_of c;
            counts = rack.counts (rack_of c);
          };
        },
      )

  pub written_to : (a : Volume S R) (b : ℕ) (block : List ℕ) (m : Store R) (c : Volume T R) → IsWell from rack a → given_of c ≡ given_of a → HasWritten a b block m c
      → WritesTo from to rack a b block Done c
  written_to a b block m c well given h = record {
    leaves = written_leaves a b block m c well h;
    given_is = given;
    steps = λ bytes is origin state st.
        let wrote : HasWritten a b (padded (shape_of a).l bytes) m c = subst (λ (x : List ℕ). HasWritten a b x m c) is h in
        let W = slice_set state.blocks b (padded (shape_of a).l bytes) in
        subst (λ (s : State). (next : State) × StandsIn to rack (WasHeld rack origin) c next × Step (Known (WasHeld rack origin) rack c) s (Write b bytes) Done next × (next.recent ≡ s.recent)) (sym st.is) (
          written_state a b (padded (shape_of a).l bytes) m c wrote state W,
          stands_after a b (padded (shape_of a).l bytes) m c state state.blocks st.label wrote st.holds,
          written_step a b bytes m c state state.blocks st.label wrote st.holds,
          refl,
        );
  }

  -- ---- by what became of the inference

  -- what following the write left of the inference, where no boundary is lost
  pub record HasFollowed (a : Volume S R) (b : ℕ) (block : List ℕ) (m new : Store R) (kept now : KeptInference) : Type 0 where
    pub size : (now.l ≡ kept.l) × (now.n ≡ kept.n)
    pub whole : has_lost (stores.shape_of new) (stores.members_of new) ≡ false
    pub inferred : (V : List (List ℕ)) → IsFollowed rack m new kept b block V → inferences.StandsFor now (slice_set V b block)
    pub marks : (V : List (List ℕ)) → AreLeft (IsFollowed rack m new kept b block V) kept.l kept.n (slice_set V b block) (with_mark kept.pending b) now.pending
    pub few : (V : List (List ℕ)) → RereadsFew rack (IsFollowed rack m new kept b block V) m new V (slice_set V b block) b

  followed : (a : Volume S R) (b : ℕ) (block : List ℕ) (m : Store R) (kept : KeptInference) (c : Volume T R) (V : List (List ℕ)) → from.kept a.phase ≡ Some kept → HasStored a b block m c.store
      → IsOver a c V → IsFollowed rack m c.store kept b block V
  followed a b block m kept c V is array over = record {
    tells = over.tells;
    stands = array.stored.sets V over.held.array;
    was = subst (λ (o : Option KeptInference). IfSome o (λ k. inferences.StandsFor k V)) is over.held.inferred;
  }

  pub written_whole : (a : Volume S R) (b : ℕ) (block : List ℕ) (m : Store R) (kept now : KeptInference) (c : Volume T R) → IsWell from rack a → HasStored a b block m c.store
      → c.levels.fragment ≡ a.levels.fragment → c.homes ≡ a.homes → c.copies ≡ [] → Uncuts a b c → from.kept a.phase ≡ Some kept → to.kept c.phase ≡ Some now → to.phase c.phase ≡ LoosePhase
      → HasFollowed a b block m c.store kept now → Labels rack a c → HasWritten a b block m c
  written_whole a b block m kept now c well array levels homes copies uncuts had has loose h labels =
      let fitted : FitsArray (shape_of a) kept = subst (λ (o : Option KeptInference). IfSome o (FitsArray (shape_of a))) had well.inferred in
      let Left : ℕ → ℕ → Bool → List Bool → List Bool → List (List ℕ) → Type 0 = λ l n lost old new V. AreNext lost (IsOver a c V) l n (slice_set V b block) (with_mark old b) new in
      record {
        array = array;
        levels = levels;
        homes = homes;
        copies = copies;
        boundaries = uncuts.boundaries;
        long = uncuts.long;
        live = uncuts.live;
        cut = uncuts.cut;
        labeled = well.labeled;
        labels = labels;
        phase_is = loose ∙ sym (ap phase_after h.whole);
        fits = subst (λ (o : Option KeptInference). IfSome o (FitsArray (shape_of a))) (sym has) (record { bytes = h.size.0 ∙ fitted.bytes; number = h.size.1 ∙ fitted.number });
        inferred = λ V over. subst (λ (o : Option KeptInference). IfSome o (λ k. inferences.StandsFor k (slice_set V b block))) (sym has) (h.inferred V (followed a b block m kept c V had array over));
        marks = λ V.
            let left = h.marks V in
            let next : Left kept.l kept.n false kept.pending now.pending V = record { size = left.size; fewer = left.fewer; are = λ over. left.are (followed a b block m kept c V had array over) } in
            subst (λ (o : Option KeptInference). Left (shape_of a).l (shape_of a).n (has_lost (shape_of c) (members_of c)) (marks_of from a) (marks_by o c.pending.items) V) (sym has)
            (subst (λ (o : Option KeptInference). Left (shape_of a).l (shape_of a).n (has_lost (shape_of c) (members_of c)) (marks_by o a.pending.items) now.pending V) (sym had)
            (subst (λ (x : Bool). Left (shape_of a).l (shape_of a).n x kept.pending now.pending V) (sym h.whole)
            (subst (λ (x : ℕ). Left x (shape_of a).n false kept.pending now.pending V) fitted.bytes (subst (λ (x : ℕ). Left kept.l x false kept.pending now.pending V) fitted.number next))));
        few = λ V.
            let few = h.few V in
            let shape : stores.shape_of m ≡ shape_of a = array.first.stays.shape in
            let W = slice_set V b block in
            record {
              rereads = record {
                indirect = few.rereads.indirect;
                indirect_once = few.rereads.indirect_once;
                changed = λ over. subst (λ (x : Shape). All (IsChangedAt x.l x.n V W) few.rereads.indirect) shape (few.rereads.changed (followed a b block m kept c V had array over));
                beside = few.rereads.beside;
                beside_once = few.rereads.beside_once;
                are_beside = λ over. subst (λ (x : Shape). All (IsBesideBlock x.l x.n V W b) few.rereads.beside) shape (few.rereads.are_beside (followed a b block m kept c V had array over));
                others = λ over. few.rereads.others (followed a b block m kept c V had array over);
              };
              most = λ none.
                  let rest = few.few (none_back (rack.counts (rack_of a)).faults (rack.counts (stores.rack_of m)).faults (rack.counts (rack_of c)).faults array.first.stays.stays.rise.faults none) in
                  omega (arith, array.most, rest);
            };
      }

  -- where a boundary is lost, a fault came
  pub written_broken : (a : Volume S R) (b : ℕ) (block : List ℕ) (m : Store R) (kept : KeptInference) (c : Volume T R) → IsWell from rack a → HasStored a b block m c.store
      → c.levels.fragment ≡ a.levels.fragment → c.homes ≡ a.homes → c.copies ≡ [] → Uncuts a b c → from.kept a.phase ≡ Some kept → to.kept c.phase ≡ None → to.phase c.phase ≡ WornPhase
      → c.pending.items ≡ with_mark kept.pending b → has_lost (shape_of c) (members_of c) ≡ true → Labels rack a c → HasWritten a b block m c
  written_broken a b block m kept c well array levels homes copies uncuts had has worn marks lost labels = record {
    array = array;
    boundaries = uncuts.boundaries;
    long = uncuts.long;
    live = uncuts.live;
    cut = uncuts.cut;
    labeled = well.labeled;
    labels = labels;
    levels = levels;
    homes = homes;
    copies = copies;
    phase_is = worn ∙ sym (ap phase_after lost);
    fits = subst (λ (o : Option KeptInference). IfSome o (FitsArray (shape_of a))) (sym has) tt;
    inferred = λ V over. subst (λ (o : Option KeptInference). IfSome o (λ k. inferences.StandsFor k (slice_set V b block))) (sym has) tt;
    marks = λ V.
        subst (λ (x : Bool). AreNext x (IsOver a c V) (shape_of a).l (shape_of a).n (slice_set V b block) (with_mark (marks_of from a) b) (marks_of to c)) (sym lost)
        (ap (λ (o : Option KeptInference). marks_by o c.pending.items) has ∙ marks ∙ sym (ap (λ (o : Option KeptInference). with_mark (marks_by o a.pending.items) b) had));
    few = λ V. record {
      rereads = none_read (IsOver a c V) (shape_of a).l (shape_of a).n V (slice_set V b block) b;
      most = λ none. absurd (whole_still _ _ (shape_of a) (members_of a) (members_of c) none (falls_on a b block m c.store array) array.whole
          (ap (λ (x : Shape). has_lost x (members_of c)) (sym (shape_on a b block m c.store array)) ∙ lost));
    };
  }

-- ---- want of memory

module _ {S T R : Type 0} (from : phases.Ghosts S) (to : phases.Ghosts T) (rack : Ghosts R) where
  -- before a write: what is inferred stays, and no copies are left
  pub unwritten_leaves : (a : Volume S R) (c : Volume T R) → IsWell from rack a → FallsOn rack a.store c.store → SameWritten (table_of a) (table_of c) → c.in_use ≡ a.in_use
      → c.levels.fragment ≡ a.levels.fragment → c.pending ≡ a.pending → c.homes ≡ a.homes → c.copies ≡ [] → to.kept c.phase ≡ from.kept a.phase
      → (to.phase c.phase ≡ WornPhase → ⊥) → (to.phase c.phase ≡ SettledPhase → ⊥) → Labels rack a c → Leaves from to rack a c
  unwritten_leaves a c well falls written in_use levels pending homes copies kept worn settled labels =
      let shape : shape_of c ≡ shape_of a = falls.stays.shape in
      let line = line_same a c (ap (λ (u : InUse). u.long) in_use) shape in
      left_leaves from to rack a c well (record {
        sound = falls.sound;
        shape = shape;
        rise = falls.stays.stays.rise;
        tells = falls.stays.stays.tells;
        told_before = falls.stays.stays.told_before;
        own = falls.stays.own;
        same_rack = falls.stays.stays.same_rack;
        levels = levels;
        boundaries = ap (λ (u : InUse). u.boundaries) in_use;
        live = ap (λ (u : InUse). u.live.items) in_use;
        line = line;
        homes = homes;
        copies = subst (λ (x : List Home). AreHomes (shape_of a) x) (sym copies) (no_homes (shape_of a));
        marks = λ i. length (marks_by (kept i) ((pending i).items));
        fits = subst (λ (o : Option KeptInference). IfSome o (FitsArray (shape_of a))) (sym kept) well.inferred;
        labeled = labeled_by rack a c line labels well.labeled;
        in_use = fits_same a c in_use shape written well.in_use;
        uncopied = copies;
        worn = λ is. absurd (worn is);
        settled = settled;
      })

  -- behind a write: a loose volume is left
  pub loosened_leaves : (a : Volume S R) (m : Store R) (kept now : KeptInference) (c : Volume T R) → IsWell from rack a → FitsReduced (table_of c) (reduced_of c) → c.in_use.boundaries ≡ a.in_use.boundaries → live_of c ≡ live_of a → c.in_use.long ≡ a.in_use.long → FallsOn rack a.store m → IsSound rack c.store → ReadsOn rack m c.store
      → c.levels.fragment ≡ a.levels.fragment → c.homes ≡ a.homes → c.copies ≡ [] → from.kept a.phase ≡ Some kept → to.kept c.phase ≡ Some now → to.phase c.phase ≡ LoosePhase
      → (now.l ≡ kept.l) × (now.n ≡ kept.n) → length now.pending ≡ length kept.pending → Labels rack a c → Leaves from to rack a c
  loosened_leaves a m kept now c well in_use bounds live same first sound reads levels homes copies had has loose size room labels =
      let fitted : FitsArray (shape_of a) kept = subst (λ (o : Option KeptInference). IfSome o (FitsArray (shape_of a))) had well.inferred in
      left_leaves from to rack a c well (record {
        sound = sound;
        shape = reads.keeps.shape ∙ first.stays.shape;
        rise = rises_both (rack.counts (rack_of a)) (rack.counts (stores.rack_of m)) (rack.counts (rack_of c)) first.stays.stays.rise reads.keeps.stays.rise;
        tells = λ q told. first.stays.stays.tells q (reads.keeps.stays.tells q told);
        told_before = λ q told. first.stays.stays.told_before q (reads.keeps.stays.told_before q told);
        own = own_then rack a.store m c.store first.stays.shape first.stays.own reads.keeps.own;
        same_rack = reads.keeps.stays.same_rack ∙ first.stays.stays.same_rack;
        boundaries = bounds;
        live = live;
        line = line_same a c same (reads.keeps.shape ∙ first.stays.shape);
        levels = levels;
        homes = homes;
        copies = subst (λ (x : List Home). AreHomes (shape_of a) x) (sym copies) (no_homes (shape_of a));
        marks =
            ap (λ (o : Option KeptInference). length (marks_by o c.pending.items)) has ∙ room
            ∙ sym (ap (λ (o : Option KeptInference). length (marks_by o a.pending.items)) had);
        fits = subst (λ (o : Option KeptInference). IfSome o (FitsArray (shape_of a))) (sym has) (record { bytes = size.0 ∙ fitted.bytes; number = size.1 ∙ fitted.number });
        labeled = labeled_by rack a c (line_same a c same (reads.keeps.shape ∙ first.stays.shape)) labels well.labeled;
        in_use = in_use;
        uncopied = copies;
        worn = λ worn. absurd (loose_not_worn (sym loose ∙ worn));
        settled = λ settled. loose_not_settled (sym loose ∙ settled);
      })

-- ---- writes that are refused

module _ {S R : Type 0} (phase : phases.Ghosts S) (rack : Ghosts R) where
  unmoved : (a : Volume S R) → IsSound rack a.store → HasLabel rack a → Keeps phase rack a a
  unmoved a sound labeled = record {
    beside = record { phase_is = refl; pending = refl; homes = refl; copies = refl; in_use = refl };
    labeled = labeled;
    levels = refl;
    sound = sound;
    table = refl;
    rise = (rack_none rack (rack_of a)).rise;
    tells = λ q told. told;
    told_before = λ q told. told;
    own = own_none rack (shape_of a).b (rack_of a);
    same_rack = refl;
    back = λ q good. good;
    stands = λ V stands. stands;
    labels = relabels_none rack (line_of a) a.store a.label;
    faults = tells_same rack a.store a.store refl;
  }

  -- there is no such block
  pub past_end : (a : Volume S R) (b : ℕ) (block : List ℕ) → IsWell phase rack a → (shape_of a).n ≤ b → WritesTo phase phase rack a b block Range a
  past_end a b block well past = record {
    leaves = leaves phase rack a a well (unmoved a well.array well.labeled);
    given_is = refl;
    steps = λ bytes is. steps_from phase rack a a (Write b bytes) Range (λ origin rest V label holds. (
      state_of phase rack a rest V,
      same_in phase rack a rest V label holds,
      (past, refl),
      refl,
    ));
  }

  -- a boundary was lost before
  pub lost_before : (a : Volume S R) (b : ℕ) (block : List ℕ) → IsWell phase rack a → b < (shape_of a).n → has_lost (shape_of a) (members_of a) ≡ true
      → WritesTo phase phase rack a b block Degraded a
  lost_before a b block well within lost = record {
    leaves = leaves phase rack a a well (unmoved a well.array well.labeled);
    given_is = refl;
    steps = λ bytes is. steps_from phase rack a a (Write b bytes) Degraded (λ origin rest V label holds. (
      state_of phase rack a rest V,
      same_in phase rack a rest V label holds,
      (within, inl (lost, refl)),
      refl,
    ));
  }

  -- all sites of the block were lost
  pub record HasMissed (a : Volume S R) (b : ℕ) (c : Volume S R) : Type 0 where
    pub within : b < (shape_of a).n
    pub whole : has_lost (shape_of a) (members_of a) ≡ false
    pub first : FallsOn rack a.store c.store
    pub lost : IsAllLost rack b a.store c.store
    pub most : CallsAtMost rack a.store c.store (opening_calls a.label (2 * (shape_of a).b) + 2 * max 1 (length (sites_in (table_of a) b)))
    pub beside : IsBeside phase rack a c
    pub levels : c.levels.fragment ≡ a.levels.fragment
    pub labels : Labels rack a c

  missed_keeps : (a : Volume S R) (b : ℕ) (c : Volume S R) → IsWell phase rack a → HasMissed a b c → Keeps phase rack a c
  missed_keeps a b c well h = record {
    beside = h.beside;
    labeled = well.labeled;
    levels = h.levels;
    sound = h.first.sound;
    table = h.lost.table;
    rise = h.first.stays.stays.rise;
    tells = h.first.stays.stays.tells;
    told_before = h.first.stays.stays.told_before;
    own = h.first.stays.own;
    same_rack = h.first.stays.stays.same_rack;
    back = λ q. good_was (rack.counts (rack_of a)).faults (rack.counts (rack_of c)).faults (members_of a) (members_of c) q h.first.falls;
    stands = h.lost.stands;
    labels = h.labels;
    faults = h.first.faults;
  }

  pub lost_now : (a : Volume S R) (b : ℕ) (block : List ℕ) (c : Volume S R) → IsWell phase rack a → given_of c ≡ given_of a → HasMissed a b c → WritesTo phase phase rack a b block Degraded c
  lost_now a b block c well given h = record {
    leaves = leaves phase rack a c well (missed_keeps a b c well h);
    given_is = given;
    steps = λ bytes is. steps_from phase rack a c (Write b bytes) Degraded (λ origin rest V label holds. (
      kept_state phase rack a c (missed_keeps a b c well h) rest V,
      still_in phase rack a c rest V label (missed_keeps a b c well h) holds,
      (
        h.within,
        inr (
          h.whole,
          h.lost.lost,
          refused_under rest.label a.label label.kept (rack.counts (rack_of c)).calls (rack.counts (rack_of a)).calls (2 * (shape_of a).b) (2 * max 1 (length (sites_in (table_of a) b))) h.most,
          stays phase rack a c rest V label (missed_keeps a b c well h) h.first.stays.stays.rise h.first.falls h.first.outs,
        ),
      ),
      refl,
    ));
  }
