-- A volume makes a step by a read of a block, and by a failure of a member.
use Rattle.std.proofs.Common.{◌≡◌, ◌≢◌, ◌∙◌, ◌<◌, ◌+◌, ◌*◌, ℕ, Bool, true, false, List, arith, length, refl, sym, ap, subst, inl, inr}
use Rattle.std.specs.Prelude.{◌||◌, [], Option}
use Rattle.std.proofs.lemmas.Bool.{cases_eq, false≢true, or_left, or_right}
use Rattle.dg_io.specs.Told.{StillTold}
use Rattle.dg_io.specs.declared.outside.Rack.{Ghosts}
use Rattle.dg_label.specs.declared.labels.KeptLabel.{KeptLabel}
use Rattle.dg_model.proofs.MemberLaws.{struck_good_was}
use Rattle.dg_model.proofs.TrimLaws.{trimmed_written, zeros_padded}
use Rattle.dg_model.specs.Blocks.{IsTrimmed, zeros}
use Rattle.dg_model.specs.Changes.{IsMember, ReadsFew}
use Rattle.dg_model.specs.Marks.{is_marked}
use Rattle.dg_model.specs.Members.{ArePaired, IsStruck, is_filling, is_good}
use Rattle.dg_model.specs.Seals.{label_after}
use Rattle.dg_model.specs.Sites.{has_site, is_gone}
use Rattle.dg_model.specs.States.{CountsRise, State}
use Rattle.dg_model.specs.Tables.{Table, sites_in}
use Rattle.dg_model.specs.declared.events.Event.TheVariants.{Fail, Read}
use Rattle.dg_model.specs.declared.members.MemberState.{MemberState}
use Rattle.dg_model.specs.declared.members.MemberState.TheVariants.{Out}
use Rattle.dg_model.specs.declared.replies.Reply.TheVariants.{Already, Data, Done, Unavailable}
use Rattle.dg_store.specs.Leaves.{CallsAtMost, CallsBelow, NoFault}
use Rattle.dg_store.specs.Stores.{HasBlock, IsSound, KeepsBlocks}
use Rattle.dg_store.specs.ReadLaws.{own_none, rack_none, reads_none, tells_good}
use Rattle.dg_store.specs.Stores as stores
use Rattle.dg_store.specs.Views.{ReadsOn}
use Rattle.dg_store.specs.declared.store.Store.{Store}
use Rattle.dg_volume.proofs.FaultLaws.{tells_same}
use Rattle.dg_volume.proofs.LabelLaws.{none_opens, quiet_opens, relabels_none, relabels_quiet}
use Rattle.dg_volume.proofs.UseLaws.{HasPlace, IsUnused, own_member, unused_out}
use Rattle.dg_volume.proofs.VolumeLaws.{HasRead, IsBeside, Keeps, Labels, kept_state, leaves, quiet_in, read_keeps, read_state, reads_in, reads_stay, same_in, steps_from, still_in, told_before}
use Rattle.dg_volume.specs.Seals.{Relabels}
use Rattle.dg_volume.specs.Volumes.{HasLabel, IsWell, Leaves, StepsTo, cut_of, line_of, marks_by, members_of, rack_of, shape_of, state_of, table_of}
use Rattle.dg_volume.specs.declared.phases.InPhase as phases
use Rattle.dg_volume.specs.declared.volumes.Volume.{Volume}

neither : (x y : Bool) → x ≡ false → y ≡ false → (x || y) ≡ false
neither true y one other = one
neither false y one other = other

pub false_of : (b : Bool) → (b ≡ true → ⊥) → b ≡ false
false_of true none = absurd (none refl)
false_of false none = refl

-- where a member was out already, making it fail changes no member: one that was refilled has another partner
struck_same : (q : ℕ) (old new : ℕ → MemberState) → ArePaired old → old q ≡ Out → IsStruck q old new → (p : ℕ) → new p ≡ old p
struck_same q old new paired out struck p = elim (cases_eq p q) [
  | inl here ↦ ap new here ∙ struck.out ∙ sym out ∙ ap old (sym here)
  | inr other ↦ elim (struck.others p other) [
    | inl same ↦ same
    | inr gone ↦
        let good : is_good (old q) ≡ true = subst (λ (k : ℕ). is_good (old k) ≡ true) gone.2 (paired p gone.0) in
        absurd (false≢true (sym (ap is_good out) ∙ good))
  ]
]

-- a member that was out stays so
pub struck_out : (q : ℕ) (old new : ℕ → MemberState) → IsStruck q old new → (p : ℕ) → old p ≡ Out → new p ≡ Out
struck_out q old new struck p out = elim (cases_eq p q) [
  | inl here ↦ ap new here ∙ struck.out
  | inr other ↦ elim (struck.others p other) [ inl same ↦ same ∙ out | inr gone ↦ gone.1 ]
]

-- one that is refilled was so before
pub struck_fills : (q : ℕ) (old new : ℕ → MemberState) → IsStruck q old new → (p : ℕ) → is_filling (new p) ≡ true → is_filling (old p) ≡ true
struck_fills q old new struck p fills = elim (cases_eq p q) [
  | inl here ↦ absurd (false≢true (sym (ap is_filling (ap new here ∙ struck.out)) ∙ fills))
  | inr other ↦ elim (struck.others p other) [ inl same ↦ sym (ap is_filling same) ∙ fills | inr gone ↦ gone.0 ]
]

module _ {S R : Type 0} (phase : phases.Ghosts S) (rack : Ghosts R) where
  -- ---- reads

  -- what a call that reads the array leaves
  pub read_by : (a : Volume S R) (store : Store R) → IsWell phase rack a → IsSound rack store → ReadsOn rack a.store store → KeepsBlocks rack a.store store → HasRead phase rack a (record a { store = store })
  read_by a store well sound reads stands = record {
    beside = record { phase_is = refl; pending = refl; homes = refl; copies = refl; in_use = refl };
    levels = refl;
    sound = sound;
    reads = reads;
    stands = stands;
    labeled = well.labeled;
    label_is = refl;
  }

  -- no call was made
  pub read_none : (a : Volume S R) → IsWell phase rack a → HasRead phase rack a a
  read_none a well = read_by a a.store well well.array (reads_none rack a.store) (λ V stands. stands)

  pub record HasReadBlock (a : Volume S R) (block : ℕ) (b : Volume S R) : Type 0 where
    pub within : block < (shape_of a).n
    pub read : HasRead phase rack a b
    pub most : CallsAtMost rack a.store b.store (2 * length (sites_in (table_of a) block))
    pub once : NoFault rack a.store b.store → CallsAtMost rack a.store b.store 1

  few : (a : Volume S R) (block : ℕ) (b : Volume S R) (rest : State) (V : List (List ℕ)) → (h : HasReadBlock a block b)
      → ReadsFew (state_of phase rack a rest V) block (read_state phase rack a b h.read rest V)
  few a block b rest V h = record { unwritten = h.read.reads.writes; most = h.most; one = h.once }

  pub steps_data : (a : Volume S R) (block : ℕ) (bytes value : List ℕ) (b : Volume S R) → HasReadBlock a block b → is_gone (table_of b) (members_of b) block ≡ false
      → is_marked (cut_of b) block ≡ false → IsTrimmed bytes value → (stores.Tells rack b.store → HasBlock rack a.store block value)
      → (has_site (sites_in (table_of a) block) ≡ false → value ≡ zeros (shape_of a).l) → StepsTo phase phase rack a (Read block) (Data bytes) b
  steps_data a block bytes value b h here uncut trimmed got blank = steps_from phase rack a b (Read block) (Data bytes) (λ origin rest V label holds. (
    read_state phase rack a b h.read rest V,
    reads_in phase rack a b rest V label h.read holds,
    (
      h.within,
      neither (is_gone (table_of b) (members_of b) block) (is_marked (cut_of b) block) here uncut,
      λ told.
          let held = holds (told_before phase rack a b (read_keeps phase rack a b h.read) told) in
          subst (λ (x : List ℕ). IsTrimmed bytes x) (got (tells_good rack b.store h.read.sound (told.0)) V held.array) trimmed,
      λ none. trimmed_written (shape_of a).l bytes value [] trimmed (blank none ∙ zeros_padded (shape_of a).l),
      few a block b rest V h,
      reads_stay phase rack a b rest V label h.read,
    ),
    refl,
  ))

  pub steps_gone : (a : Volume S R) (block : ℕ) (b : Volume S R) → HasReadBlock a block b → is_gone (table_of b) (members_of b) block ≡ true
      → StepsTo phase phase rack a (Read block) Unavailable b
  steps_gone a block b h gone = steps_from phase rack a b (Read block) Unavailable (λ origin rest V label holds. (
    read_state phase rack a b h.read rest V,
    reads_in phase rack a b rest V label h.read holds,
    (
      h.within,
      or_left (is_gone (table_of b) (members_of b) block) (is_marked (cut_of b) block) gone,
      few a block b rest V h,
      reads_stay phase rack a b rest V label h.read,
    ),
    refl,
  ))

  -- a block that was cut isn't read
  pub steps_cut : (a : Volume S R) (block : ℕ) → IsWell phase rack a → block < (shape_of a).n → is_marked (cut_of a) block ≡ true → StepsTo phase phase rack a (Read block) Unavailable a
  steps_cut a block well within cut =
      let h : HasRead phase rack a a = read_none a well in
      steps_from phase rack a a (Read block) Unavailable (λ origin rest V label holds. (
        read_state phase rack a a h rest V,
        reads_in phase rack a a rest V label h holds,
        (
          within,
          or_right (is_gone (table_of a) (members_of a) block) (is_marked (cut_of a) block) cut,
          record { unwritten = refl; most = omega arith; one = λ none. omega arith },
          reads_stay phase rack a a rest V label h,
        ),
        refl,
      ))

  -- ---- failures

  -- `s` is the place of the boundary of this number
  pub record HasFailed (a : Volume S R) (s j : ℕ) (b : Volume S R) : Type 0 where
    pub number : ℕ
    pub place : HasPlace a number s
    pub side : j < 2
    pub beside : IsBeside phase rack a b
    pub levels : b.levels.fragment ≡ a.levels.fragment
    pub sound : IsSound rack b.store
    pub rack_is : rack_of b ≡ rack_of a
    pub label_is : b.label ≡ a.label
    pub labeled : HasLabel rack a
    pub table : table_of b ≡ table_of a
    pub struck : IsStruck (2 * s + j) (members_of a) (members_of b)
    pub stands : KeepsBlocks rack a.store b.store

  -- by what the array's call left
  abbrev pub failed_by : (a : Volume S R) (t s j : ℕ) (store : Store R) → IsWell phase rack a → HasPlace a t s → j < 2 → (IsSound rack a.store → IsSound rack store) → stores.rack_of store ≡ rack_of a
      → stores.table_of store ≡ table_of a → IsStruck (2 * s + j) (members_of a) (stores.members_of store) → KeepsBlocks rack a.store store → HasFailed a s j (record a { store = store })
  failed_by a t s j store well place side sound same table struck stands = record {
    number = t;
    place = place;
    side = side;
    beside = record { phase_is = refl; pending = refl; homes = refl; copies = refl; in_use = refl };
    levels = refl;
    sound = sound well.array;
    rack_is = same;
    label_is = refl;
    labeled = well.labeled;
    table = table;
    struck = struck;
    stands = stands;
  }

  is_member : (a : Volume S R) (rest : State) (V : List (List ℕ)) (s j : ℕ) (b : Volume S R) → (h : HasFailed a s j b) → IsMember (state_of phase rack a rest V) h.number j
  is_member a rest V s j b h = record { boundary = h.place.number; side = h.side }

  -- no seal was opened
  fail_labels : (a : Volume S R) (s j : ℕ) (b : Volume S R) → HasFailed a s j b → (labels : Labels rack a b) × (labels.opens ≡ false)
  fail_labels a s j b h =
      let shape : shape_of b ≡ shape_of a = ap (λ (t : Table). t.shape) h.table in
      let outs = struck_out (2 * s + j) (members_of a) (members_of b) h.struck in
      let fills = struck_fills (2 * s + j) (members_of a) (members_of b) h.struck in
      let none = relabels_none rack (line_of a) a.store a.label in
      subst (λ (k : Option KeptLabel). (labels : Relabels rack (line_of a) a.store b.store a.label k) × (labels.opens ≡ false)) (sym h.label_is) (
        relabels_quiet rack (line_of a) a.store a.store b.store a.label a.label none shape h.rack_is (λ q was good. was) outs fills,
        quiet_opens rack (line_of a) a.store a.store b.store a.label a.label none shape h.rack_is (λ q was good. was) outs fills ∙ none_opens rack (line_of a) a.store a.label,
      )

  abbrev fail_keeps : (a : Volume S R) (s j : ℕ) (b : Volume S R) → HasFailed a s j b → Keeps phase rack a b
  fail_keeps a s j b h = record {
    beside = h.beside;
    labeled = h.labeled;
    levels = h.levels;
    sound = h.sound;
    table = h.table;
    rise = subst (λ (r : R). CountsRise (rack.counts (rack_of a)) (rack.counts r)) (sym h.rack_is) (rack_none rack (rack_of a)).rise;
    tells = subst (λ (r : R). StillTold (rack.bytes (rack_of a)) (rack.bytes r)) (sym h.rack_is) (λ q told. told);
    told_before = subst (λ (r : R). (q : ℕ) → rack.tells r q → rack.tells (rack_of a) q) (sym h.rack_is) (λ q told. told);
    own = subst (λ (r : R). CallsBelow rack (shape_of a).b (rack_of a) r) (sym h.rack_is) (own_none rack (shape_of a).b (rack_of a));
    same_rack = ap rack.name h.rack_is;
    back = λ q good. struck_good_was (2 * s + j) (members_of a) (members_of b) q h.struck good;
    stands = h.stands;
    labels = (fail_labels a s j b h).0;
    faults = tells_same rack a.store b.store h.rack_is;
  }

  pub fail_leaves : (a : Volume S R) (s j : ℕ) (b : Volume S R) → IsWell phase rack a → HasFailed a s j b → Leaves phase phase rack a b
  fail_leaves a s j b well h = leaves phase rack a b well (fail_keeps a s j b h)

  pub steps_struck : (a : Volume S R) (s j : ℕ) (b : Volume S R) → (h : HasFailed a s j b) → members_of a (2 * s + j) ≢ Out → StepsTo phase phase rack a (Fail h.number j) Done b
  steps_struck a s j b h stood = steps_from phase rack a b (Fail h.number j) Done (λ origin rest V label holds. (
    kept_state phase rack a b (fail_keeps a s j b h) rest V,
    still_in phase rack a b rest V label (fail_keeps a s j b h) holds,
    (
      is_member a rest V s j b h,
      λ out. stood (ap (members_of a) (sym (own_member a h.number s j h.place)) ∙ out),
      record {
        members = subst (λ (q : ℕ). IsStruck q (members_of a) (members_of b)) (sym (own_member a h.number s j h.place)) h.struck;
        paired = h.sound.paired;
        rest = λ i. record rest {
          boundaries = (h.beside.in_use i).boundaries;
          live = (h.beside.in_use i).live.items;
          table = h.table i;
          blocks = V;
          pending = marks_by (phase.kept (h.beside.phase_is i)) ((h.beside.pending i).items);
          cut = (h.beside.in_use i).cut.items;
          homes = h.beside.homes i;
          copies = h.beside.copies i;
          phase = phase.phase (h.beside.phase_is i);
          members = members_of b;
          label = label_after ((fail_labels a s j b h).1 i) (members_of a) (members_of b) rest.label;
          counts = rack.counts (h.rack_is i);
        };
      },
    ),
    refl,
  ))

  -- a member that is out already: nothing changes
  pub steps_already : (a : Volume S R) (s j : ℕ) (b : Volume S R) → (h : HasFailed a s j b) → IsSound rack a.store → members_of a (2 * s + j) ≡ Out
      → StepsTo phase phase rack a (Fail h.number j) Already b
  steps_already a s j b h sound out =
      let same = struck_same (2 * s + j) (members_of a) (members_of b) sound.paired out h.struck in
      steps_from phase rack a b (Fail h.number j) Already (λ origin rest V label holds. (
        state_of phase rack b rest V,
        quiet_in phase rack a b rest V label (fail_keeps a s j b h) h.rack_is h.label_is (λ q was. same q ∙ was) (λ q fills. ap is_filling (sym (same q)) ∙ fills) holds,
        (
          is_member a rest V s j b h,
          ap (members_of a) (own_member a h.number s j h.place) ∙ out,
          λ i. record rest {
            boundaries = (h.beside.in_use i).boundaries;
            live = (h.beside.in_use i).live.items;
            table = h.table i;
            blocks = V;
            pending = marks_by (phase.kept (h.beside.phase_is i)) ((h.beside.pending i).items);
            cut = (h.beside.in_use i).cut.items;
            homes = h.beside.homes i;
            copies = h.beside.copies i;
            phase = phase.phase (h.beside.phase_is i);
            members = λ p. same p i;
            counts = rack.counts (h.rack_is i);
          },
        ),
        refl,
      ))

  -- a member of a boundary that isn't in use
  pub steps_unused : (a : Volume S R) (t j : ℕ) → IsWell phase rack a → IsUnused a t → j < 2 → StepsTo phase phase rack a (Fail t j) Already a
  steps_unused a t j well unused side = steps_from phase rack a a (Fail t j) Already (λ origin rest V label holds. (
    state_of phase rack a rest V,
    same_in phase rack a rest V label holds,
    (record { boundary = unused.number; side = side }, unused_out phase rack a t j well unused side, refl),
    refl,
  ))
