-- A volume makes a step by a replacement of a member.
use Rattle.std.proofs.Common.{◌≡◌, ◌≢◌, ◌∙◌, ◌⊎◌, ◌<◌, ◌≤◌, ◌/◌, ◌+◌, ◌*◌, ◌==◌, ℕ, Bool, true, false, List, length, inl, inr, refl, sym, ap, subst, arith}
use Rattle.std.specs.Prelude.{◌↔◌, IfSome, None, Option, Some, if◌then◌else◌, take}
use Rattle.std.proofs.lemmas.Bool.{cases_eq, cases_lt, eq-eqb, false≢true, ne_eqb}
use Rattle.std.proofs.lemmas.List.{length-replicate, take-replicate}
use Rattle.dg_io.specs.Told.{IsZeros, Told, Torn}
use Rattle.dg_io.specs.declared.outside.Rack.{Ghosts}
use Rattle.dg_label.specs.Labels.{HasLength, HaveSameNumbers, IsLabeled, is_long}
use Rattle.dg_label.specs.LineLaws.{line_on, own_seal, place_is, room_fits, seal_on}
use Rattle.dg_label.specs.Lines.{IsLineOf}
use Rattle.dg_label.specs.declared.labels.KeptLabel.{KeptLabel}
use Rattle.dg_model.proofs.MemberLaws.{NoneRecovers, falls_both, rose_after, rose_before}
use Rattle.dg_model.specs.Changes.{IsMember, Misses, Passes, Replaces}
use Rattle.dg_model.specs.Members.{MembersFall, OthersFall, is_filling, is_good, is_lost, partner_of}
use Rattle.dg_model.specs.Saves.{member_length, room_of}
use Rattle.dg_model.specs.States.{CountsRise, State, after_calls}
use Rattle.dg_model.specs.Tables.{Table}
use Rattle.dg_model.specs.declared.events.Event.TheVariants.{Replace}
use Rattle.dg_model.specs.declared.members.MemberState.{MemberState}
use Rattle.dg_model.specs.declared.members.MemberState.TheVariants.{Filling, Good, Out}
use Rattle.dg_model.specs.declared.shapes.Shape.{Shape}
use Rattle.dg_model.specs.declared.replies.Reply.TheVariants.{Done, Failed as FailedReply, Lost as LostReply, NotOut as NotOutReply}
use Rattle.dg_pair.specs.Calls.{replaced}
use Rattle.dg_pair.specs.Kept.{BlanksBy}
use Rattle.dg_pair.specs.declared.boundaries.ReplaceAnswer.{ReplaceAnswer}
use Rattle.dg_pair.specs.declared.boundaries.ReplaceAnswer.TheVariants.{Failed, Lost, NotOut, Replaced}
use Rattle.dg_store.specs.Leaves.{BytesChange, FaultRose, IsCallOrBlankBelow, OnlyBytesOf, OnlyFaultsOf}
use Rattle.dg_store.specs.Leaves as arrays
use Rattle.dg_store.specs.ReadLaws.{own_or_blank, rises_both}
use Rattle.dg_store.specs.Stores.{IsSound, KeepsBlocks}
use Rattle.dg_store.specs.Stores as stores
use Rattle.dg_store.specs.declared.store.Store.{Store}
use Rattle.dg_volume.proofs.FaultLaws.{array_outs, array_tells, own_then}
use Rattle.dg_volume.proofs.UseLaws.{HasPlace, IsUnused, lost_in, lost_of, own_member, place_on, unused_lost, unused_out}
use Rattle.dg_volume.proofs.LabelLaws.{
  HasNone,
  good_falls,
  good_live,
  length_stays,
  noted_numbers,
  out_falls,
  relabels_noted,
  relabels_where,
  same_bytes,
  same_numbers,
  torn_none,
}
use Rattle.dg_volume.proofs.VolumeLaws.{IsBeside, KeepsBy, Labels, kept_state, label_by, leaves, on_label, quiet_in, same_in, stays, steps_from, still_in}
use Rattle.dg_volume.proofs.VolumeSteps.{false_of}
use Rattle.dg_volume.specs.Faults.{OutsStay, TellsFaults, faults_of}
use Rattle.dg_volume.specs.Refills.{EndsReplacement, NotesAnew, replace_reply, replaced_as}
use Rattle.dg_volume.specs.Seals.{OpensWhere, Relabels}
use Rattle.dg_volume.specs.Volumes.{HasLabel, IsWell, Known, LeavesBy, StandsFor, StandsIn, StandsUnder, StepsTo, line_of, marks_by, members_of, rack_of, shape_of, state_of, table_of}
use Rattle.dg_volume.specs.declared.phases.InPhase as phases
use Rattle.dg_volume.specs.declared.volumes.Volume.{Volume}

-- a member of which it can't be that it isn't out is out
out_by : (state : MemberState) → (state ≢ Out → ⊥) → state ≡ Out
out_by Good none = absurd (none (λ e. cc e))
out_by (Filling have) none = absurd (none (λ e. cc e))
out_by Out none = refl

at_test : (b : Bool) (state : MemberState) → is_good (if b then Filling 0 else state) ≡ true → is_good state ≡ true
at_test true state good = absurd (false≢true good)
at_test false state good = good

-- no member becomes good
none_recovers : (answer : ReplaceAnswer) (p : ℕ) (old new : ℕ → MemberState) → ((q : ℕ) → new q ≡ replaced answer p old q) → NoneRecovers old new
none_recovers Replaced p old new is q good = at_test (q == p) (old q) (ap is_good (sym (is q)) ∙ good)
none_recovers Lost p old new is q good = ap is_good (sym (is q)) ∙ good
none_recovers NotOut p old new is q good = ap is_good (sym (is q)) ∙ good
none_recovers Failed p old new is q good = ap is_good (sym (is q)) ∙ good

failed_stood : Failed ≡ NotOut → ⊥
failed_stood e = cc e

replaced_stood : Replaced ≡ NotOut → ⊥
replaced_stood e = cc e

replaced_lost : Replaced ≡ Lost → ⊥
replaced_lost e = cc e

replaced_failed : Replaced ≡ Failed → ⊥
replaced_failed e = cc e

lost_stood : Lost ≡ NotOut → ⊥
lost_stood e = cc e

-- what the answer of the array says of what is kept
pub replacement_ends : {R : Type 0} (rack : Ghosts R) (member : ℕ) (answer : ReplaceAnswer) (before now : R) → BlanksBy rack member answer before now → EndsReplacement rack member (replaced_as answer) before now
replacement_ends rack member Replaced before now is = is
replacement_ends rack member Failed before now is = is
replacement_ends rack member Lost before now is = is
replacement_ends rack member NotOut before now is = is

-- a member that is as long as format 2 says of the line has room for the slots
pub line_enough : (line shape : Shape) → IsLineOf line shape → member_length 1 shape ≤ member_length 2 line
line_enough line shape fits =
    let place = place_is line shape fits in
    let room = room_fits line shape 1 fits in
    let more = format_two line in
    omega (arith, place, room, more)
  where
    format_two : (s : Shape) → room_of 1 s ≤ room_of 2 s
    format_two s = omega arith

lost_same : (s : ℕ) (old new : ℕ → MemberState) → ((q : ℕ) → new q ≡ old q) → is_lost old s ≡ true → is_lost new s ≡ true
lost_same s old new same lost = subst (λ (x : ℕ → MemberState). is_lost x s ≡ true) (sym (λ i q. same q i)) lost

module _ {S R : Type 0} (phase : phases.Ghosts S) (rack : Ghosts R) where
  -- what the opening of the seal and the array's call left; `s` is the place of the boundary of this number
  pub record HasReplaced (a : Volume S R) (s j : ℕ) (answer : ReplaceAnswer) (writes : Bool) (m : Store R) (b : Volume S R) : Type 0 where
    pub number : ℕ
    pub place : HasPlace a number s
    pub side : j < 2
    pub beside : IsBeside phase rack a b
    pub levels : b.levels.fragment ≡ a.levels.fragment
    pub labeled : HasLabel rack a
    pub mid : Option KeptLabel
    pub opening : OpensWhere rack writes a.store m a.label mid
    pub label : NotesAnew answer (2 * s + j) mid b.label
    pub out : writes ≡ true → members_of a (2 * s + j) ≡ Out
    pub live : writes ≡ true → is_lost (members_of a) s ≡ false
    pub other : writes ≡ false → (members_of a (2 * s + j) ≢ Out) ⊎ (is_lost (members_of a) s ≡ true)
    pub sound : IsSound rack b.store
    pub left : arrays.StaysBy rack IsCallOrBlankBelow m b.store
    pub table : table_of b ≡ stores.table_of m
    pub lost : (answer ≡ Lost) ↔ (is_lost (stores.members_of m) s ≡ true)
    pub not_out : (answer ≡ NotOut) ↔ (stores.members_of m (2 * s + j) ≢ Out)
    pub failed : answer ≡ Failed → FaultRose rack m b.store (2 * s + j)
    pub members : (q : ℕ) → members_of b q ≡ replaced answer (2 * s + j) (stores.members_of m) q
    pub blank : answer ≡ Replaced → BytesChange rack m b.store (2 * s + j) (IsZeros (member_length 2 (line_of a)))
    pub other_bytes : OnlyBytesOf rack m b.store (2 * s + j)
    pub other_faults : OnlyFaultsOf rack m b.store (2 * s + j)
    pub faulty : (q : ℕ) → faults_of rack m q < faults_of rack b.store q → members_of b q ≡ Out
    pub quiet : (answer ≡ Lost) ⊎ (answer ≡ NotOut) → rack_of b ≡ stores.rack_of m
    pub stands : KeepsBlocks rack m b.store

  module _ (a : Volume S R) (s j : ℕ) (answer : ReplaceAnswer) (writes : Bool) (m : Store R) (b : Volume S R) (h : HasReplaced a s j answer writes m b) where
    -- ---- the array in between

    mid_falls : MembersFall (rack.counts (rack_of a)).faults (rack.counts (stores.rack_of m)).faults (members_of a) (stores.members_of m)
    mid_falls = h.opening.array.falls

    mid_out : (q : ℕ) → members_of a q ≡ Out → stores.members_of m q ≡ Out
    mid_out = out_falls rack (rack.counts (rack_of a)).faults (rack.counts (stores.rack_of m)).faults (members_of a) (stores.members_of m) mid_falls

    mid_good : (q : ℕ) → is_good (stores.members_of m q) ≡ true → is_good (members_of a q) ≡ true
    mid_good = good_falls rack (rack.counts (rack_of a)).faults (rack.counts (stores.rack_of m)).faults (members_of a) (stores.members_of m) mid_falls

    -- where nothing was opened, the call found what stops it
    found : writes ≡ false → (answer ≡ NotOut) ⊎ (answer ≡ Lost)
    found none =
        let same = (h.opening.quiet none).0 in
        elim (h.other none) [
          | inl stood ↦ inl (h.not_out.1 (subst (λ (x : Store R). stores.members_of x (2 * s + j) ≢ Out) (sym same) stood))
          | inr lost ↦ inr (h.lost.1 (subst (λ (x : Store R). is_lost (stores.members_of x) s ≡ true) (sym same) lost))
        ]

    quiet_where : writes ≡ false → rack_of b ≡ stores.rack_of m
    quiet_where none = elim (found none) [ inl stood ↦ h.quiet (inr stood) | inr lost ↦ h.quiet (inl lost) ]

    -- a member that the call didn't make anew does what it did
    stays_at : (q : ℕ) → q ≢ 2 * s + j → members_of b q ≡ stores.members_of m q
    stays_at q apart = h.members q ∙ at_other answer
      where
        at_other : (x : ReplaceAnswer) → replaced x (2 * s + j) (stores.members_of m) q ≡ stores.members_of m q
        at_other Replaced = ap (λ (t : Bool). if t then Filling 0 else stores.members_of m q) (ne_eqb q (2 * s + j) apart)
        at_other Lost = refl
        at_other NotOut = refl
        at_other Failed = refl

    -- ---- by the answer

    answer_is : (answer ≡ Replaced) ⊎ (answer ≡ Failed) ⊎ (answer ≡ Lost) ⊎ (answer ≡ NotOut)
    answer_is = by_answer answer refl
      where
        by_answer : (x : ReplaceAnswer) → answer ≡ x → (answer ≡ Replaced) ⊎ (answer ≡ Failed) ⊎ (answer ≡ Lost) ⊎ (answer ≡ NotOut)
        by_answer Replaced is = inl is
        by_answer Failed is = inr (inl is)
        by_answer Lost is = inr (inr (inl is))
        by_answer NotOut is = inr (inr (inr is))

    -- a member that is made anew
    made_anew : answer ≡ Replaced → members_of b (2 * s + j) ≡ Filling 0
    made_anew is =
        h.members (2 * s + j) ∙ ap (λ (x : ReplaceAnswer). replaced x (2 * s + j) (stores.members_of m) (2 * s + j)) is
        ∙ ap (λ (t : Bool). if t then Filling 0 else stores.members_of m (2 * s + j)) (eq-eqb (2 * s + j) (2 * s + j) refl)

    -- where none is, each does what it did
    same_failed : answer ≡ Failed → (q : ℕ) → members_of b q ≡ stores.members_of m q
    same_failed is q = h.members q ∙ ap (λ (x : ReplaceAnswer). replaced x (2 * s + j) (stores.members_of m) q) is

    same_quiet : (answer ≡ Lost) ⊎ (answer ≡ NotOut) → (q : ℕ) → members_of b q ≡ stores.members_of m q
    same_quiet (inl is) q = h.members q ∙ ap (λ (x : ReplaceAnswer). replaced x (2 * s + j) (stores.members_of m) q) is
    same_quiet (inr is) q = h.members q ∙ ap (λ (x : ReplaceAnswer). replaced x (2 * s + j) (stores.members_of m) q) is

    failed_out : answer ≡ Failed → stores.members_of m (2 * s + j) ≡ Out
    failed_out is = out_by (stores.members_of m (2 * s + j)) (λ stood. failed_stood (sym is ∙ h.not_out.1 stood))

    -- where a member is made anew it was out
    replaced_out : answer ≡ Replaced → stores.members_of m (2 * s + j) ≡ Out
    replaced_out is = out_by (stores.members_of m (2 * s + j)) (λ stood. replaced_stood (sym is ∙ h.not_out.1 stood))

    writes_where : answer ≡ Replaced → writes ≡ true
    writes_where is = by_writes writes refl
      where
        by_writes : (x : Bool) → writes ≡ x → x ≡ true
        by_writes true e = refl
        by_writes false e = absurd (elim (found e) [ inl stood ↦ replaced_stood (sym is ∙ stood) | inr lost ↦ replaced_lost (sym is ∙ lost) ])

    -- ---- faults

    -- the member itself wasn't called before it was made anew
    own_uncalled : faults_of rack m (2 * s + j) ≡ faults_of rack a.store (2 * s + j)
    own_uncalled = by_writes writes refl
      where
        by_writes : (x : Bool) → writes ≡ x → faults_of rack m (2 * s + j) ≡ faults_of rack a.store (2 * s + j)
        by_writes true e = array_outs rack a.store m h.opening.array (2 * s + j) (h.out e)
        by_writes false e = ap (λ (x : Store R). faults_of rack x (2 * s + j)) (h.opening.quiet e).0

    tells_replaced : TellsFaults rack a.store b.store
    tells_replaced =
        let first = array_tells rack a.store m h.opening.array in
        record {
          fell = λ q below rose. elim (cases_lt (faults_of rack m q) (faults_of rack b.store q)) [
            | inl late ↦ h.faulty q late
            | inr early ↦
                let rises : faults_of rack a.store q < faults_of rack m q = omega (arith, rose, early) in
                elim (cases_eq q (2 * s + j)) [
                  | inl here ↦ absurd (omega (arith, subst (λ (p : ℕ). faults_of rack m p ≡ faults_of rack a.store p) (sym here) own_uncalled, rises))
                  | inr apart ↦ stays_at q apart ∙ first.fell q below rises
                ]
          ];
          beyond = λ q past. h.other_faults q (λ here. not_past q here past) ∙ first.beyond q past;
        }
      where
        not_past : (q : ℕ) → q ≡ 2 * s + j → (shape_of a).b ≤ q / 2 → ⊥
        not_past q here past = let low = h.place.within in let side = h.side in omega (arith, here, past, low, side)

    others_uncalled : (q : ℕ) → q ≢ 2 * s + j → members_of a q ≡ Out → faults_of rack b.store q ≡ faults_of rack a.store q
    others_uncalled q apart out = h.other_faults q apart ∙ array_outs rack a.store m h.opening.array q out

    outs_quiet : rack_of b ≡ stores.rack_of m → OutsStay rack a.store b.store
    outs_quiet same q out = ap (λ (r : R). (rack.counts r).faults q) same ∙ array_outs rack a.store m h.opening.array q out

    -- ---- the label

    opened_first : (first : Relabels rack (line_of a) a.store m a.label h.mid) × (first.opens ≡ writes)
    opened_first = relabels_where rack (line_of a) writes a.store m a.label h.mid (λ is. good_live rack a.store s (h.live is)) h.opening

    not_failed : answer ≡ Failed → answer ≢ Replaced
    not_failed is anew = replaced_failed (sym anew ∙ is)

    not_quiet : (answer ≡ Lost) ⊎ (answer ≡ NotOut) → answer ≢ Replaced
    not_quiet (inl is) anew = replaced_lost (sym anew ∙ is)
    not_quiet (inr is) anew = replaced_stood (sym anew ∙ is)

    -- the label differs in the bit of the member that was made anew, and in no more
    numbers_noted : HaveSameNumbers h.mid b.label
    numbers_noted = elim answer_is [
      | inl is ↦ (h.label.noted is).numbers
      | inr (inl is) ↦ unnoted_numbers (h.label.unnoted (not_failed is))
      | inr (inr still) ↦ unnoted_numbers (h.label.unnoted (not_quiet still))
    ]
      where
        unnoted_numbers : b.label ≡ h.mid → HaveSameNumbers h.mid b.label
        unnoted_numbers same = subst (λ (k : Option KeptLabel). HaveSameNumbers h.mid k) (sym same) (same_numbers h.mid)

    unnoted_long : (q : ℕ) → answer ≢ Replaced → is_long b.label q ≡ is_long h.mid q
    unnoted_long q other = ap (λ (k : Option KeptLabel). is_long k q) (h.label.unnoted other)

    long_apart : (q : ℕ) → q ≢ 2 * s + j → is_long b.label q ≡ is_long h.mid q
    long_apart q apart = elim answer_is [
      | inl is ↦ (h.label.noted is).others q apart
      | inr (inl is) ↦ unnoted_long q (not_failed is)
      | inr (inr still) ↦ unnoted_long q (not_quiet still)
    ]

    abbrev Beside : ℕ → Type 0
    Beside q = Told (Torn 512 (((stores.shape_of m).k + 1) * (stores.shape_of m).l)) (rack.bytes (stores.rack_of m) q) (rack.bytes (rack_of b) q)

    other_beside : (q : ℕ) → q ≢ 2 * s + j → Beside q
    other_beside q apart = torn_none 512 (((stores.shape_of m).k + 1) * (stores.shape_of m).l) (rack.bytes (stores.rack_of m) q) (rack.bytes (rack_of b) q) (h.other_bytes q apart)

    not_good : (x : MemberState) → is_good x ≡ true → (x ≡ Out) ⊎ (x ≡ Filling 0) → ⊥
    not_good x good (inl is) = false≢true (sym (ap is_good is) ∙ good)
    not_good x good (inr is) = false≢true (sym (ap is_good is) ∙ good)

    -- the bytes of a good member, or of each where no call was made
    bytes_at : (q : ℕ) → (is_good (members_of b q) ≡ true) ⊎ (writes ≡ false) → Beside q
    bytes_at q (inr none) = same_bytes rack m b.store (quiet_where none) q
    bytes_at q (inl good) = elim (cases_eq q (2 * s + j)) [
      | inl here ↦
          let at_member : is_good (members_of b (2 * s + j)) ≡ true = subst (λ (p : ℕ). is_good (members_of b p) ≡ true) here good in
          elim answer_is [
            | inl is ↦ absurd (not_good (members_of b (2 * s + j)) at_member (inr (made_anew is)))
            | inr rest ↦ elim rest [
              | inl is ↦ absurd (not_good (members_of b (2 * s + j)) at_member (inl (same_failed is (2 * s + j) ∙ failed_out is)))
              | inr still ↦ same_bytes rack m b.store (h.quiet still) q
            ]
          ]
      | inr apart ↦ other_beside q apart
    ]

    -- the label fits the array in between
    labeled_mid : IsLabeled rack (line_of a) m h.mid
    labeled_mid = h.opening.labeled (line_of a) h.labeled

    shape_is : shape_of b ≡ stores.shape_of m
    shape_is = h.left.shape

    abbrev LongEnough : ℕ → Type 0
    LongEnough q = IfSome (rack.bytes (rack_of b) q) (λ all. HasLength (line_of a) b.label q (length all))

    -- so many bytes
    abbrev SizedBy : Option (List ℕ) → Bool → Type 0
    SizedBy told long = IfSome told (λ all. length all ≡ member_length (if long then 2 else 1) (line_of a))

    long_as : (q : ℕ) → is_long b.label q ≡ is_long h.mid q → stores.members_of m q ≢ Out → Beside q → LongEnough q
    long_as q same stood beside =
        subst (λ (long : Bool). SizedBy (rack.bytes (rack_of b) q) long) (sym same)
        (length_stays (((stores.shape_of m).k + 1) * (stores.shape_of m).l) (λ size. HasLength (line_of a) h.mid q size) (rack.bytes (stores.rack_of m) q) (rack.bytes (rack_of b) q) beside
        (labeled_mid.lengths q stood))

    fills_anew : (before now : Option (List ℕ)) → Told (IsZeros (member_length 2 (line_of a))) before now → IfSome now (λ all. length all ≡ member_length 2 (line_of a))
    fills_anew None None told = tt
    fills_anew (Some x) None told = tt
    fills_anew None (Some y) told = absurd told
    fills_anew (Some x) (Some y) told = ap length told ∙ length-replicate (member_length 2 (line_of a)) 0

    long_at : (q : ℕ) → members_of b q ≢ Out → LongEnough q
    long_at q here = elim (cases_eq q (2 * s + j)) [
      | inl at ↦ elim answer_is [
        | inl is ↦
            subst (λ (p : ℕ). LongEnough p) (sym at)
            (subst (λ (long : Bool). SizedBy (rack.bytes (rack_of b) (2 * s + j)) long) (sym (h.label.noted is).here)
            (fills_anew (rack.bytes (stores.rack_of m) (2 * s + j)) (rack.bytes (rack_of b) (2 * s + j)) (h.blank is)))
        | inr rest ↦ elim rest [
          | inl is ↦ absurd (here (ap (members_of b) at ∙ same_failed is (2 * s + j) ∙ failed_out is))
          | inr still ↦ long_as q (unnoted_long q (not_quiet still)) (λ out. here (same_quiet still q ∙ out)) (same_bytes rack m b.store (h.quiet still) q)
        ]
      ]
      | inr apart ↦ long_as q (long_apart q apart) (λ out. here (stays_at q apart ∙ out)) (other_beside q apart)
    ]

    abbrev FillsWhole : ℕ → Type 0
    FillsWhole q = IfSome (rack.bytes (rack_of b) q) (λ all. length all ≡ member_length 2 (line_of a))

    fills_as : (q : ℕ) → is_filling (stores.members_of m q) ≡ true → Beside q → FillsWhole q
    fills_as q fills beside =
        length_stays (((stores.shape_of m).k + 1) * (stores.shape_of m).l) (λ size. size ≡ member_length 2 (line_of a)) (rack.bytes (stores.rack_of m) q) (rack.bytes (rack_of b) q) beside
        (labeled_mid.filling q fills)

    fills_at : (q : ℕ) → is_filling (members_of b q) ≡ true → FillsWhole q
    fills_at q fills = elim (cases_eq q (2 * s + j)) [
      | inl at ↦ elim answer_is [
        | inl is ↦
            subst (λ (p : ℕ). FillsWhole p) (sym at) (fills_anew (rack.bytes (stores.rack_of m) (2 * s + j)) (rack.bytes (rack_of b) (2 * s + j)) (h.blank is))
        | inr rest ↦ elim rest [
          | inl is ↦ absurd (false≢true (sym (ap is_filling (ap (members_of b) at ∙ same_failed is (2 * s + j) ∙ failed_out is)) ∙ fills))
          | inr still ↦ fills_as q (sym (ap is_filling (same_quiet still q)) ∙ fills) (same_bytes rack m b.store (h.quiet still) q)
        ]
      ]
      | inr apart ↦ fills_as q (sym (ap is_filling (stays_at q apart)) ∙ fills) (other_beside q apart)
    ]

    labeled_now : IsLabeled rack (line_of a) b.store b.label
    labeled_now = record {
      fits = line_on (line_of a) (stores.shape_of m) (shape_of b) shape_is labeled_mid.fits;
      numbers = noted_numbers (line_of a) h.mid b.label numbers_noted labeled_mid.numbers;
      sealed = own_seal (shape_of b) h.mid b.label numbers_noted (seal_on (stores.shape_of m) (shape_of b) h.mid shape_is labeled_mid.sealed);
      lengths = long_at;
      filling = fills_at;
    }

    recovers_none : (q : ℕ) → is_good (members_of b q) ≡ true → is_good (stores.members_of m q) ≡ true
    recovers_none = none_recovers answer (2 * s + j) (stores.members_of m) (members_of b) h.members

    none_anew : (before now : Option (List ℕ)) → Told (IsZeros (member_length 2 (line_of a))) before now → HasNone now
    none_anew None None told = tt
    none_anew (Some x) None told = tt
    none_anew None (Some y) told = absurd told
    none_anew (Some x) (Some y) told = ap (λ (xs : List ℕ). take 512 xs) told ∙ take-replicate 512 (member_length 2 (line_of a)) 0 (omega arith)

    -- the member that was made anew has no label
    none_at : (q : ℕ) → q ≡ 2 * s + j → answer ≡ Replaced → HasNone (rack.bytes (rack_of b) q)
    none_at q at is =
        subst (λ (p : ℕ). HasNone (rack.bytes (rack_of b) p)) (sym at) (none_anew (rack.bytes (stores.rack_of m) (2 * s + j)) (rack.bytes (rack_of b) (2 * s + j)) (h.blank is))

    opens_at : answer ≡ Replaced → opened_first.0.opens ≡ true
    opens_at is = opened_first.1 ∙ writes_where is

    filling_at : (q : ℕ) → is_filling (members_of b q) ≡ true
        → (is_filling (stores.members_of m q) ≡ true) ⊎ ((opened_first.0.opens ≡ true) × HasNone (rack.bytes (rack_of b) q))
    filling_at q fills = elim (cases_eq q (2 * s + j)) [
      | inl at ↦ elim answer_is [
        | inl is ↦ inr (opens_at is, none_at q at is)
        | inr (inl is) ↦ absurd (false≢true (sym (ap is_filling (ap (members_of b) at ∙ same_failed is (2 * s + j) ∙ failed_out is)) ∙ fills))
        | inr (inr still) ↦ inl (sym (ap is_filling (same_quiet still q)) ∙ fills)
      ]
      | inr apart ↦ inl (sym (ap is_filling (stays_at q apart)) ∙ fills)
    ]

    out_at : (q : ℕ) → stores.members_of m q ≡ Out → (members_of b q ≡ Out) ⊎ ((opened_first.0.opens ≡ true) × HasNone (rack.bytes (rack_of b) q))
    out_at q out = elim (cases_eq q (2 * s + j)) [
      | inl at ↦ elim answer_is [
        | inl is ↦ inr (opens_at is, none_at q at is)
        | inr (inl is) ↦ inl (same_failed is q ∙ out)
        | inr (inr still) ↦ inl (same_quiet still q ∙ out)
      ]
      | inr apart ↦ inl (stays_at q apart ∙ out)
    ]

    live_at : (q : ℕ) → members_of b q ≢ Out → stores.members_of m q ≢ Out → Beside q
    live_at q here stood = elim (cases_eq q (2 * s + j)) [
      | inl at ↦ elim answer_is [
        | inl is ↦ absurd (stood (ap (stores.members_of m) at ∙ replaced_out is))
        | inr (inl is) ↦ absurd (here (ap (members_of b) at ∙ same_failed is (2 * s + j) ∙ failed_out is))
        | inr (inr still) ↦ same_bytes rack m b.store (h.quiet still) q
      ]
      | inr apart ↦ other_beside q apart
    ]

    labels_now : Labels rack a b
    labels_now =
        let first = opened_first.0 in
        let opens = opened_first.1 in
        relabels_noted rack (line_of a) a.store m b.store a.label h.mid b.label first numbers_noted (λ labeled. labeled_now) (record {
          shape = shape_is;
          rise = h.left.stays.rise.writes;
          back = λ q was good. recovers_none q good;
          beside = λ q why. bytes_at q (elim why [ inl good ↦ inl good | inr closed ↦ inr (sym opens ∙ closed) ]);
          fills = filling_at;
          outs = out_at;
          live = live_at;
        })
        (λ closed. ap (λ (r : R). (rack.counts r).writes) (quiet_where (sym opens ∙ closed)))

    -- ---- what is left

    replace_keeps : KeepsBy phase rack IsCallOrBlankBelow a b
    replace_keeps = record {
      beside = h.beside;
      labeled = h.labeled;
      levels = h.levels;
      sound = h.sound;
      table = h.table ∙ h.opening.array.table;
      rise = rises_both (rack.counts (rack_of a)) (rack.counts (stores.rack_of m)) (rack.counts (rack_of b)) h.opening.array.stays.stays.rise h.left.stays.rise;
      tells = λ q told. h.opening.array.stays.stays.tells q (h.left.stays.tells q told);
      told_before = λ q told. h.opening.array.stays.stays.told_before q (h.left.stays.told_before q told);
      own = own_then rack a.store m b.store h.opening.array.stays.shape
          (own_or_blank rack (shape_of a).b (rack_of a) (stores.rack_of m) h.opening.array.stays.own) h.left.own;
      same_rack = h.left.stays.same_rack ∙ h.opening.array.stays.stays.same_rack;
      back = λ q good. mid_good q (recovers_none q good);
      stands = λ V held. h.stands V (h.opening.array.stands V held);
      labels = labels_now;
      faults = tells_replaced;
    }

    rises : CountsRise (rack.counts (rack_of a)) (rack.counts (rack_of b))
    rises = rises_both (rack.counts (rack_of a)) (rack.counts (stores.rack_of m)) (rack.counts (rack_of b)) h.opening.array.stays.stays.rise h.left.stays.rise

    falls_as : ((q : ℕ) → members_of b q ≡ stores.members_of m q) → MembersFall (rack.counts (rack_of a)).faults (rack.counts (rack_of b)).faults (members_of a) (members_of b)
    falls_as same =
        falls_both (rack.counts (rack_of a)).faults (rack.counts (stores.rack_of m)).faults (rack.counts (rack_of b)).faults (members_of a) (stores.members_of m) (members_of b)
        h.opening.array.stays.stays.rise.faults h.left.stays.rise.faults mid_falls (λ q. inl (same q))

    -- the other members, where one was out before
    others_fall : IsSound rack a.store → members_of a (2 * s + j) ≡ Out
        → OthersFall (2 * s + j) (rack.counts (rack_of a)).faults (rack.counts (rack_of b)).faults (members_of a) (members_of b)
    others_fall sound out q apart = elim (mid_falls q) [
      | inl same ↦ inl (stays_at q apart ∙ same)
      | inr fell ↦ inr (record {
        out = stays_at q apart ∙ fell.out;
        caused = elim fell.caused [
          | inl rose ↦ inl (rose_after ((rack.counts (rack_of a)).faults q) ((rack.counts (stores.rack_of m)).faults q) ((rack.counts (rack_of b)).faults q) rose (h.left.stays.rise.faults q))
          | inr left ↦ inr (left.0, stays_at (partner_of q) (λ here. not_partner q left.0 here) ∙ left.1)
        ];
      })
    ]
      where
        not_partner : (q : ℕ) → is_filling (members_of a q) ≡ true → partner_of q ≡ 2 * s + j → ⊥
        not_partner q filling here =
            let good = subst (λ (p : ℕ). is_good (members_of a p) ≡ true) here (sound.paired q filling) in
            false≢true (sym (ap is_good out) ∙ good)

    member_in : (rest : State) (V : List (List ℕ)) → IsMember (state_of phase rack a rest V) h.number j
    member_in rest V = record { boundary = h.place.number; side = h.side }

    -- where nothing was opened each member does what it did
    same_members : writes ≡ false → (q : ℕ) → members_of b q ≡ members_of a q
    same_members none q =
        let mid = (h.opening.quiet none).0 in
        let still : (answer ≡ Lost) ⊎ (answer ≡ NotOut) = elim (found none) [ inl stood ↦ inr stood | inr lost ↦ inl lost ] in
        same_quiet still q ∙ ap (λ (x : Store R). stores.members_of x q) mid

    -- nothing was done
    same_state : writes ≡ false → (rest : State) (V : List (List ℕ)) → state_of phase rack b rest V ≡ state_of phase rack a rest V
    same_state none rest V =
        let mid = (h.opening.quiet none).0 in
        let members = same_members none in
        let rack_is : rack_of b ≡ rack_of a = quiet_where none ∙ ap (λ (x : Store R). stores.rack_of x) mid in
        let table = h.table ∙ h.opening.array.table in
        λ i. record rest {
          boundaries = (h.beside.in_use i).boundaries;
          live = (h.beside.in_use i).live.items;
          cut = (h.beside.in_use i).cut.items;
          table = table i;
          blocks = V;
          pending = marks_by (phase.kept (h.beside.phase_is i)) ((h.beside.pending i).items);
          homes = h.beside.homes i;
          copies = h.beside.copies i;
          phase = phase.phase (h.beside.phase_is i);
          members = λ q. members q i;
          counts = rack.counts (rack_is i);
        }

    same_next : {P : Type 0} → writes ≡ false → (rest : State) (V : List (List ℕ)) → StandsUnder rack a rest.label → (Known P rack a → StandsFor phase rack a V)
        → StandsIn phase rack P b (state_of phase rack b rest V)
    same_next none rest V label holds =
        quiet_in phase rack a b rest V label replace_keeps (quiet_where none ∙ ap (λ (x : Store R). stores.rack_of x) (h.opening.quiet none).0)
        (h.label.unnoted (not_quiet (elim (found none) [ inl stood ↦ inr stood | inr lost ↦ inl lost ])) ∙ (h.opening.quiet none).1)
        (λ q out. same_members none q ∙ out) (λ q fills. ap is_filling (sym (same_members none q)) ∙ fills) holds

  pub replace_leaves : (a : Volume S R) (s j : ℕ) (answer : ReplaceAnswer) (writes : Bool) (m : Store R) (b : Volume S R) → IsWell phase rack a → HasReplaced a s j answer writes m b
      → LeavesBy phase phase rack IsCallOrBlankBelow a b
  replace_leaves a s j answer writes m b well h = leaves phase rack a b well (replace_keeps a s j answer writes m b h)

  module _ (a : Volume S R) (s j : ℕ) (answer : ReplaceAnswer) (writes : Bool) (m : Store R) (b : Volume S R) (h : HasReplaced a s j answer writes m b) (rest : State) (V : List (List ℕ)) where
    passes_replaced : StandsUnder rack a rest.label
        → Passes (state_of phase rack a rest V) (kept_state phase rack a b (replace_keeps a s j answer writes m b h) rest V)
    passes_replaced label =
        let keeps = replace_keeps a s j answer writes m b h in
        record {
          counts = rises a s j answer writes m b h;
          label = label_by rack a b keeps.labels rest.label label;
          paired = h.sound.paired;
          faults = record { fell = keeps.faults.fell; beyond = keeps.faults.beyond };
        }

    rest_replaced : kept_state phase rack a b (replace_keeps a s j answer writes m b h) rest V
        ≡ after_calls (state_of phase rack a rest V) (kept_state phase rack a b (replace_keeps a s j answer writes m b h) rest V)
    rest_replaced i =
        let keeps = replace_keeps a s j answer writes m b h in
        record (on_label a b keeps.labels.opens rest) {
          boundaries = (h.beside.in_use i).boundaries;
          live = (h.beside.in_use i).live.items;
          cut = (h.beside.in_use i).cut.items;
          table = keeps.table i;
          blocks = V;
          pending = marks_by (phase.kept (h.beside.phase_is i)) ((h.beside.pending i).items);
          homes = h.beside.homes i;
          copies = h.beside.copies i;
          phase = phase.phase (h.beside.phase_is i);
          members = members_of b;
          counts = rack.counts (rack_of b);
        }

    -- its boundary is there still
    there : HasPlace b h.number s
    there = let keeps = replace_keeps a s j answer writes m b h in place_on a b h.number s h.beside.in_use (ap (λ (t : Table). t.shape) keeps.table) h.place

  opened_where : (x : ReplaceAnswer) (writes : Bool) → (x ≡ NotOut → ⊥) → (x ≡ Lost → ⊥) → (writes ≡ false → (x ≡ NotOut) ⊎ (x ≡ Lost)) → writes ≡ true
  opened_where x true stood lost found = refl
  opened_where x false stood lost found = absurd (elim (found refl) [ inl is ↦ stood is | inr is ↦ lost is ])

  steps_replaced : (a : Volume S R) (s j : ℕ) (writes : Bool) (m : Store R) (b : Volume S R) → IsWell phase rack a → (h : HasReplaced a s j Replaced writes m b)
      → StepsTo phase phase rack a (Replace h.number j) Done b
  steps_replaced a s j writes m b well h =
      let opens = opened_where Replaced writes (λ e. cc e) (λ e. cc e) (found a s j Replaced writes m b h) in
      steps_from phase rack a b (Replace h.number j) Done (λ origin rest V label holds. (
        kept_state phase rack a b (replace_keeps a s j Replaced writes m b h) rest V,
        still_in phase rack a b rest V label (replace_keeps a s j Replaced writes m b h) holds,
        (
          member_in a s j Replaced writes m b h rest V,
          ap (members_of a) (own_member a h.number s j h.place) ∙ h.out opens,
          λ lost. false≢true (sym (h.live opens) ∙ lost_of a (members_of a) h.number s h.place lost),
          subst (λ (q : ℕ). Replaces (state_of phase rack a rest V) q (kept_state phase rack a b (replace_keeps a s j Replaced writes m b h) rest V))
              (sym (own_member a h.number s j h.place)) (record {
                passes = passes_replaced a s j Replaced writes m b h rest V label;
                blank = made_anew a s j Replaced writes m b h refl;
                others = others_fall a s j Replaced writes m b h well.array (h.out opens);
                out = others_uncalled a s j Replaced writes m b h;
                rest = rest_replaced a s j Replaced writes m b h rest V;
              }),
        ),
        refl,
      ))

  -- its boundary was lost before, or was lost by the opening of the seal
  steps_lost_by : (a : Volume S R) (s j : ℕ) (writes : Bool) (m : Store R) (b : Volume S R) (x : Bool) → writes ≡ x → (h : HasReplaced a s j Lost writes m b)
      → StepsTo phase phase rack a (Replace h.number j) (LostReply h.number) b
  steps_lost_by a s j writes m b true opens h = steps_from phase rack a b (Replace h.number j) (LostReply h.number) (λ origin rest V label holds. (
    kept_state phase rack a b (replace_keeps a s j Lost writes m b h) rest V,
    still_in phase rack a b rest V label (replace_keeps a s j Lost writes m b h) holds,
    (
      member_in a s j Lost writes m b h rest V,
      refl,
      ap (members_of a) (own_member a h.number s j h.place) ∙ h.out opens,
      inr (
        λ lost. false≢true (sym (h.live opens) ∙ lost_of a (members_of a) h.number s h.place lost),
        lost_in b (members_of b) h.number s (there a s j Lost writes m b h rest V)
            (lost_same s (stores.members_of m) (members_of b) (same_quiet a s j Lost writes m b h (inl refl)) (h.lost.0 refl)),
        stays phase rack a b rest V label (replace_keeps a s j Lost writes m b h) (rises a s j Lost writes m b h)
            (falls_as a s j Lost writes m b h (same_quiet a s j Lost writes m b h (inl refl))) (outs_quiet a s j Lost writes m b h (h.quiet (inl refl))),
      ),
    ),
    refl,
  ))
  steps_lost_by a s j writes m b false none h =
      let mid = (h.opening.quiet none).0 in
      steps_from phase rack a b (Replace h.number j) (LostReply h.number) (λ origin rest V label holds. (
        state_of phase rack b rest V,
        same_next a s j Lost writes m b h none rest V label holds,
        (
          member_in a s j Lost writes m b h rest V,
          refl,
          ap (members_of a) (own_member a h.number s j h.place) ∙ out_by (members_of a (2 * s + j)) (λ stood. lost_stood (h.not_out.1 (subst (λ (x : Store R). stores.members_of x (2 * s + j) ≢ Out) (sym mid) stood))),
          inl (lost_in a (members_of a) h.number s h.place (subst (λ (x : Store R). is_lost (stores.members_of x) s ≡ true) mid (h.lost.0 refl)), same_state a s j Lost writes m b h none rest V),
        ),
        refl,
      ))

  -- the member isn't out: nothing was done
  steps_not_out : (a : Volume S R) (s j : ℕ) (writes : Bool) (m : Store R) (b : Volume S R) → (h : HasReplaced a s j NotOut writes m b) → StepsTo phase phase rack a (Replace h.number j) NotOutReply b
  steps_not_out a s j writes m b h =
      let stood = h.not_out.0 refl in
      let none : writes ≡ false = false_of writes (λ opens. stood (mid_out a s j NotOut writes m b h (2 * s + j) (h.out opens))) in
      let mid = (h.opening.quiet none).0 in
      steps_from phase rack a b (Replace h.number j) NotOutReply (λ origin rest V label holds. (
        state_of phase rack b rest V,
        same_next a s j NotOut writes m b h none rest V label holds,
        (
          member_in a s j NotOut writes m b h rest V,
          λ out. subst (λ (x : Store R). stores.members_of x (2 * s + j) ≢ Out) mid stood (ap (members_of a) (sym (own_member a h.number s j h.place)) ∙ out),
          same_state a s j NotOut writes m b h none rest V,
        ),
        refl,
      ))

  steps_failed : (a : Volume S R) (s j : ℕ) (writes : Bool) (m : Store R) (b : Volume S R) → (h : HasReplaced a s j Failed writes m b) → StepsTo phase phase rack a (Replace h.number j) FailedReply b
  steps_failed a s j writes m b h =
      let opens = opened_where Failed writes (λ e. cc e) (λ e. cc e) (found a s j Failed writes m b h) in
      steps_from phase rack a b (Replace h.number j) FailedReply (λ origin rest V label holds. (
        kept_state phase rack a b (replace_keeps a s j Failed writes m b h) rest V,
        still_in phase rack a b rest V label (replace_keeps a s j Failed writes m b h) holds,
        (
          member_in a s j Failed writes m b h rest V,
          ap (members_of a) (own_member a h.number s j h.place) ∙ h.out opens,
          λ lost. false≢true (sym (h.live opens) ∙ lost_of a (members_of a) h.number s h.place lost),
          subst (λ (q : ℕ). Misses (state_of phase rack a rest V) q (kept_state phase rack a b (replace_keeps a s j Failed writes m b h) rest V))
              (sym (own_member a h.number s j h.place)) (record {
                passes = passes_replaced a s j Failed writes m b h rest V label;
                members = falls_as a s j Failed writes m b h (same_failed a s j Failed writes m b h refl);
                out = others_uncalled a s j Failed writes m b h;
                rose = rose_before ((rack.counts (rack_of a)).faults (2 * s + j)) ((rack.counts (stores.rack_of m)).faults (2 * s + j)) ((rack.counts (rack_of b)).faults (2 * s + j))
                    (h.opening.array.stays.stays.rise.faults (2 * s + j)) (h.failed refl);
                rest = rest_replaced a s j Failed writes m b h rest V;
              }),
        ),
        refl,
      ))

  pub replace_steps : (a : Volume S R) (s j : ℕ) (answer : ReplaceAnswer) (writes : Bool) (m : Store R) (b : Volume S R) → IsWell phase rack a → (h : HasReplaced a s j answer writes m b)
      → StepsTo phase phase rack a (Replace h.number j) (replace_reply h.number (replaced_as answer)) b
  replace_steps a s j Replaced writes m b well h = steps_replaced a s j writes m b well h
  replace_steps a s j Lost writes m b well h = steps_lost_by a s j writes m b writes refl h
  replace_steps a s j NotOut writes m b well h = steps_not_out a s j writes m b h
  replace_steps a s j Failed writes m b well h = steps_failed a s j writes m b h

  -- the boundary isn't in use
  pub steps_unused : (a : Volume S R) (t j : ℕ) → IsWell phase rack a → IsUnused a t → j < 2 → StepsTo phase phase rack a (Replace t j) (LostReply t) a
  steps_unused a t j well unused side = steps_from phase rack a a (Replace t j) (LostReply t) (λ origin rest V label holds. (
    state_of phase rack a rest V,
    same_in phase rack a rest V label holds,
    (
      record { boundary = unused.number; side = side },
      refl,
      unused_out phase rack a t j well unused side,
      inl (unused_lost phase rack a t well unused, refl),
    ),
    refl,
  ))
