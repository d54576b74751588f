-- Events on blocks and members: from one state, where no count of faults rises, an event has one reply, and leads to one state but for its counts
-- and its label.
use Rattle.std.proofs.Common.{◌≡◌, ◌∙◌, ◌<◌, ℕ, Bool, true, false, List, Option, get_or, length, refl, sym, ap, subst, inl, inr, arith}
use Rattle.std.proofs.lemmas.Bool.{cases_eq}
use Rattle.std.proofs.lemmas.List.Elements.{All-contains_itself, All-weaker}
use Rattle.dg_model.specs.Blocks.{block_in}
use Rattle.dg_model.specs.Causes.{NoneRose}
use Rattle.dg_model.specs.Changes.{IsMember, LosesSites, Replaces, Stays, Writes, phase_after}
use Rattle.dg_model.specs.Lives.{place_in}
use Rattle.dg_model.specs.Marks.{with_mark}
use Rattle.dg_model.specs.Members.{ArePaired, is_lost}
use Rattle.dg_model.specs.Placed.{IsPlaced}
use Rattle.dg_model.specs.Seals.{LastLabel}
use Rattle.dg_model.specs.States.{Counts, State, has_lost}
use Rattle.dg_model.specs.Steps.{Step, member_of}
use Rattle.dg_model.specs.Tables.{IsTable, Table, sites_in}
use Rattle.dg_model.specs.declared.events.Event.TheVariants.{Write, Read, Fail, Replace, Pending}
use Rattle.dg_model.specs.declared.members.MemberState.{MemberState}
use Rattle.dg_model.specs.declared.members.MemberState.TheVariants.{Filling, Out}
use Rattle.dg_model.specs.declared.phases.Phase.TheVariants.{Settled}
use Rattle.dg_model.specs.declared.replies.Reply.{Reply}
use Rattle.dg_model.specs.declared.replies.Reply.TheVariants.{Done, Range, Degraded, Unavailable, Already, Lost, NotOut, Failed, Blocks, Data}
use Rattle.dg_model.specs.declared.sites.Site.{Site}
use Rattle.dg_model.specs.declared.wants.Want.{Want}
use Rattle.dg_model.proofs.FirstSites.{IsInside, sited_same}
use Rattle.dg_model.proofs.RegroupLaws.{place_at}
use Rattle.dg_model.proofs.TrimLaws.{trimmed_is}
use Rattle.dg_promise.specs.Promises.{AreTold}
use Rattle.dg_uses.proofs.Cores.{keeps_sites}
use Rattle.dg_uses.proofs.OneView.{both}
use Rattle.dg_uses.proofs.OneMark.{next_same}
use Rattle.dg_uses.proofs.ReadOnce.{gone_seen}
use Rattle.dg_uses.proofs.Seen.{Seen, goes_stay, others_stay, seen_of, state_of, stays_seen, struck_one}

-- What is needed of a state: its sites are a table, a member that is refilled has a good partner, it has a boundary in use for each of the table's,
-- and a settled one has each block in its place.
pub record IsFit (c : Seen) : Type 0 where
  pub table : IsTable c.table
  pub paired : ArePaired c.members
  pub size : c.table.shape.b ≡ length c.live
  pub placed : c.phase ≡ Settled → (wants : List (Option Want)) × IsPlaced wants c.table c.homes c.copies

-- one place is that of one boundary
pub one_boundary : (c : Seen) → IsFit c → (s t : ℕ) → place_in c.live s < c.table.shape.b → place_in c.live s ≡ place_in c.live t → s ≡ t
one_boundary c ok s t low same =
    sym (place_at c.live s (omega (arith, low, ok.size))) ∙ ap (λ (p : ℕ). get_or c.live p 0) same ∙ place_at c.live t (omega (arith, low, same, ok.size))

-- an event has one reply, and leads to one state
abbrev pub AreOne : Reply → Reply → State → State → Type 0
AreOne r q x y = (r ≡ q) × (seen_of x ≡ seen_of y)

inside : (table : Table) → IsTable table → IsInside table.shape table
inside table ok = record {
  numbers = refl;
  rows = ok.size;
  sites = λ b. All-weaker _ (λ (site : Site). site.boundary < table.shape.b) (λ site here. ok.boundaries b site.boundary site.slot here) (sites_in table b) (All-contains_itself (sites_in table b));
}

-- of an array that is whole no write is refused where no count of faults rises
pub not_lost : (c : Seen) → IsFit c → (b : ℕ) (members : ℕ → MemberState) → b < c.table.shape.n → members ≡ c.members → has_lost c.table.shape c.members ≡ false
    → LosesSites c.table b members → ⊥
not_lost c ok b members low same whole h =
    let lost = keeps_sites c.table.shape c.table b members (omega (arith, ok.table.shape.least_boundaries)) low (inside c.table ok.table) h in
    both (has_lost c.table.shape c.members) (subst (λ (m : ℕ → MemberState). has_lost c.table.shape m ≡ true) same lost) whole

module _ (c : Seen) (ok : IsFit c) (l k : Option LastLabel) (n m : Counts) (x y : State) (none : NoneRose n.faults x.counts.faults) (never : NoneRose m.faults y.counts.faults) where
  pub same_x : x ≡ state_of c l n → seen_of x ≡ c
  same_x e = ap seen_of e

  pub same_y : y ≡ state_of c k m → seen_of y ≡ c
  same_y e = ap seen_of e

  pub stays_x : Stays (state_of c l n) x → seen_of x ≡ c
  stays_x h = stays_seen c l n x ok.paired none h

  pub stays_y : Stays (state_of c k m) y → seen_of y ≡ c
  stays_y h = stays_seen c k m y ok.paired never h

  pub one : seen_of x ≡ c → seen_of y ≡ c → seen_of x ≡ seen_of y
  one a b = a ∙ sym b

  -- ---- blocks

  wrote_seen : (b : ℕ) (bytes : List ℕ) → has_lost c.table.shape c.members ≡ false → Writes AreTold (state_of c l n) b bytes x → Writes AreTold (state_of c k m) b bytes y → seen_of x ≡ seen_of y
  wrote_seen b bytes whole h g =
      let members = goes_stay c l n x ok.paired none h.goes in
      let others = goes_stay c k m y ok.paired never g.goes in
      let table = sited_same c.table x.table y.table b h.sited g.sited in
      let blocks : x.blocks ≡ y.blocks = ap (λ (s : State). s.blocks) h.rest ∙ sym (ap (λ (s : State). s.blocks) g.rest) in
      let lost : has_lost x.table.shape x.members ≡ has_lost y.table.shape y.members = ap (λ (t : Table). has_lost t.shape x.members) table ∙ ap (has_lost y.table.shape) (members ∙ sym others) in
      let marks : x.pending ≡ y.pending = next_same (has_lost x.table.shape x.members) (has_lost y.table.shape y.members) c.table.shape.l c.table.shape.n x.blocks y.blocks (with_mark c.pending b) x.pending y.pending lost blocks h.marks g.marks in
      let phase : x.phase ≡ y.phase = ap (λ (s : State). s.phase) h.rest ∙ ap phase_after lost ∙ sym (ap (λ (s : State). s.phase) g.rest) in
      λ i. record {
        boundaries = (ap (λ (s : State). s.boundaries) h.rest ∙ sym (ap (λ (s : State). s.boundaries) g.rest)) i;
        live = (ap (λ (s : State). s.live) h.rest ∙ sym (ap (λ (s : State). s.live) g.rest)) i;
        table = table i;
        blocks = blocks i;
        pending = marks i;
        cut = (ap (λ (s : State). s.cut) h.rest ∙ sym (ap (λ (s : State). s.cut) g.rest)) i;
        homes = (ap (λ (s : State). s.homes) h.rest ∙ sym (ap (λ (s : State). s.homes) g.rest)) i;
        copies = (ap (λ (s : State). s.copies) h.rest ∙ sym (ap (λ (s : State). s.copies) g.rest)) i;
        phase = phase i;
        recent = (ap (λ (s : State). s.recent) h.rest ∙ sym (ap (λ (s : State). s.recent) g.rest)) i;
        members = (members ∙ sym others) i;
      }

  pub write_one : (b : ℕ) (bytes : List ℕ) (r q : Reply) → Step AreTold (state_of c l n) (Write b bytes) r x → Step AreTold (state_of c k m) (Write b bytes) q y → AreOne r q x y
  write_one b bytes Range Range h g = (refl, one (same_x h.1) (same_y g.1))
  write_one b bytes Range Degraded h g = absurd (omega (arith, h.0, g.0))
  write_one b bytes Range Done h g = absurd (omega (arith, h.0, g.0))
  write_one b bytes Range q h g = absurd g
  write_one b bytes Degraded Range h g = absurd (omega (arith, h.0, g.0))
  write_one b bytes Degraded Degraded h g = elim h.1 [
    | inr now ↦ absurd (not_lost c ok b x.members h.0 (goes_stay c l n x ok.paired none now.3.goes) now.0 now.1)
    | inl was ↦ elim g.1 [
      | inr now ↦ absurd (not_lost c ok b y.members g.0 (goes_stay c k m y ok.paired never now.3.goes) now.0 now.1)
      | inl too ↦ (refl, one (same_x was.1) (same_y too.1))
    ]
  ]
  write_one b bytes Degraded Done h g = elim h.1 [
    | inr now ↦ absurd (not_lost c ok b x.members h.0 (goes_stay c l n x ok.paired none now.3.goes) now.0 now.1)
    | inl was ↦ absurd (both (has_lost c.table.shape c.members) was.0 g.1)
  ]
  write_one b bytes Degraded q h g = absurd g
  write_one b bytes Done Range h g = absurd (omega (arith, h.0, g.0))
  write_one b bytes Done Degraded h g = elim g.1 [
    | inr now ↦ absurd (not_lost c ok b y.members g.0 (goes_stay c k m y ok.paired never now.3.goes) now.0 now.1)
    | inl was ↦ absurd (both (has_lost c.table.shape c.members) was.0 h.1)
  ]
  write_one b bytes Done Done h g = (refl, wrote_seen b bytes h.1 h.2 g.2)
  write_one b bytes Done q h g = absurd g
  write_one b bytes r q h g = absurd h

  gone_at : (z : State) (b : ℕ) (v : Bool) → seen_of z ≡ c → gone_seen (seen_of z) b ≡ v → gone_seen c b ≡ v
  gone_at z b v same is = sym (ap (λ (d : Seen). gone_seen d b) same) ∙ is

  pub read_one : (b : ℕ) (r q : Reply) → Step AreTold (state_of c l n) (Read b) r x → Step AreTold (state_of c k m) (Read b) q y → AreOne r q x y
  read_one b Range Range h g = (refl, one (same_x h.1) (same_y g.1))
  read_one b Range Unavailable h g = absurd (omega (arith, h.0, g.0))
  read_one b Range (Data others) h g = absurd (omega (arith, h.0, g.0))
  read_one b Range q h g = absurd g
  read_one b Unavailable Range h g = absurd (omega (arith, h.0, g.0))
  read_one b Unavailable Unavailable h g = (refl, one (stays_x h.3) (stays_y g.3))
  read_one b Unavailable (Data others) h g = absurd (both (gone_seen c b) (gone_at x b true (stays_x h.3) h.1) (gone_at y b false (stays_y g.5) g.1))
  read_one b Unavailable q h g = absurd g
  read_one b (Data bytes) Range h g = absurd (omega (arith, h.0, g.0))
  read_one b (Data bytes) Unavailable h g = absurd (both (gone_seen c b) (gone_at y b true (stays_y g.3) g.1) (gone_at x b false (stays_x h.5) h.1))
  read_one b (Data bytes) (Data others) h g = (
    ap Data (trimmed_is bytes (block_in c.blocks b) (h.2 tt) ∙ sym (trimmed_is others (block_in c.blocks b) (g.2 tt))),
    one (stays_x h.5) (stays_y g.5),
  )
  read_one b (Data bytes) q h g = absurd g
  read_one b r q h g = absurd h

  pub pending_one : (r q : Reply) → Step AreTold (state_of c l n) Pending r x → Step AreTold (state_of c k m) Pending q y → AreOne r q x y
  pending_one (Blocks some) (Blocks others) h g = (ap Blocks (h.0 ∙ sym g.0), one (same_x h.1) (same_y g.1))
  pending_one (Blocks some) q h g = absurd g
  pending_one r q h g = absurd h

  -- ---- members

  member_here : (s j : ℕ) → IsMember (state_of c l n) s j → IsMember (state_of c k m) s j
  member_here s j is = record { boundary = is.boundary; side = is.side }

  member_back : (s j : ℕ) → IsMember (state_of c k m) s j → IsMember (state_of c l n) s j
  member_back s j is = record { boundary = is.boundary; side = is.side }

  pub fail_one : (s j : ℕ) (r q : Reply) → Step AreTold (state_of c l n) (Fail s j) r x → Step AreTold (state_of c k m) (Fail s j) q y → AreOne r q x y
  fail_one s j Range Range h g = (refl, one (same_x h.1) (same_y g.1))
  fail_one s j Range Already h g = absurd (h.0 (member_back s j g.0))
  fail_one s j Range Done h g = absurd (h.0 (member_back s j g.0))
  fail_one s j Range q h g = absurd g
  fail_one s j Already Range h g = absurd (g.0 (member_here s j h.0))
  fail_one s j Already Already h g = (refl, one (same_x h.2) (same_y g.2))
  fail_one s j Already Done h g = absurd (g.1 h.1)
  fail_one s j Already q h g = absurd g
  fail_one s j Done Range h g = absurd (g.0 (member_here s j h.0))
  fail_one s j Done Already h g = absurd (h.1 g.1)
  fail_one s j Done Done h g =
      let members : x.members ≡ y.members = λ i p. struck_one (member_of (state_of c l n) s j) c.members x.members y.members h.2.paired g.2.paired h.2.members g.2.members p i in
      (refl, ap seen_of h.2.rest ∙ ap (λ (z : ℕ → MemberState). record c { members = z }) members ∙ sym (ap seen_of g.2.rest))
  fail_one s j Done q h g = absurd g
  fail_one s j r q h g = absurd h

  -- boundary s is lost by its place
  abbrev pub IsLostAt : ℕ → Type 0
  IsLostAt s = is_lost c.members (place_in c.live s) ≡ true

  lost_x : (s : ℕ) → seen_of x ≡ c → is_lost x.members (place_in x.live s) ≡ true → IsLostAt s
  lost_x s same h = subst (λ (d : Seen). is_lost d.members (place_in d.live s) ≡ true) same h

  lost_y : (s : ℕ) → seen_of y ≡ c → is_lost y.members (place_in y.live s) ≡ true → IsLostAt s
  lost_y s same h = subst (λ (d : Seen). is_lost d.members (place_in d.live s) ≡ true) same h

  replaced_same : (p : ℕ) → Replaces (state_of c l n) p x → Replaces (state_of c k m) p y → seen_of x ≡ seen_of y
  replaced_same p h g =
      let members : (q : ℕ) → x.members q ≡ y.members q = λ q. elim (cases_eq q p) [
        | inl here ↦ ap x.members here ∙ h.blank ∙ sym g.blank ∙ sym (ap y.members here)
        | inr apart ↦
            others_stay n.faults x.counts.faults c.members x.members none ok.paired p (λ (e : x.members p ≡ Out). filling_in (sym h.blank ∙ e)) h.others q apart
            ∙ sym (others_stay m.faults y.counts.faults c.members y.members never ok.paired p (λ (e : y.members p ≡ Out). filling_in (sym g.blank ∙ e)) g.others q apart)
      ] in
      ap seen_of h.rest ∙ ap (λ (z : ℕ → MemberState). record c { members = z }) (λ i q. members q i) ∙ sym (ap seen_of g.rest)
    where
      filling_in : Filling 0 ≡ Out → ⊥
      filling_in e = cc

  pub replace_one : (s j : ℕ) (r q : Reply) → Step AreTold (state_of c l n) (Replace s j) r x → Step AreTold (state_of c k m) (Replace s j) q y → AreOne r q x y
  replace_one s j Failed q h g = absurd (none (member_of (state_of c l n) s j) h.3.rose)
  replace_one s j r Failed h g = absurd (never (member_of (state_of c l n) s j) g.3.rose)
  replace_one s j Range Range h g = (refl, one (same_x h.1) (same_y g.1))
  replace_one s j Range (Lost t) h g = absurd (h.0 (member_back s j g.0))
  replace_one s j Range NotOut h g = absurd (h.0 (member_back s j g.0))
  replace_one s j Range Done h g = absurd (h.0 (member_back s j g.0))
  replace_one s j Range q h g = absurd g
  replace_one s j (Lost t) Range h g = absurd (g.0 (member_here s j h.0))
  replace_one s j (Lost t) (Lost u) h g = elim h.3 [
    | inr now ↦ absurd (now.0 (lost_x s (stays_x now.2) now.1))
    | inl was ↦ elim g.3 [
      | inr now ↦ absurd (now.0 (lost_y s (stays_y now.2) now.1))
      | inl too ↦ (ap Lost (h.1 ∙ sym g.1), one (same_x was.1) (same_y too.1))
    ]
  ]
  replace_one s j (Lost t) NotOut h g = absurd (g.1 h.2)
  replace_one s j (Lost t) Done h g = elim h.3 [
    | inr now ↦ absurd (now.0 (lost_x s (stays_x now.2) now.1))
    | inl was ↦ absurd (g.2 was.0)
  ]
  replace_one s j (Lost t) q h g = absurd g
  replace_one s j NotOut Range h g = absurd (g.0 (member_here s j h.0))
  replace_one s j NotOut (Lost t) h g = absurd (h.1 g.2)
  replace_one s j NotOut NotOut h g = (refl, one (same_x h.2) (same_y g.2))
  replace_one s j NotOut Done h g = absurd (h.1 g.1)
  replace_one s j NotOut q h g = absurd g
  replace_one s j Done Range h g = absurd (g.0 (member_here s j h.0))
  replace_one s j Done (Lost t) h g = elim g.3 [
    | inr now ↦ absurd (now.0 (lost_y s (stays_y now.2) now.1))
    | inl was ↦ absurd (h.2 was.0)
  ]
  replace_one s j Done NotOut h g = absurd (g.1 h.1)
  replace_one s j Done Done h g = (refl, replaced_same (member_of (state_of c l n) s j) h.3 g.3)
  replace_one s j Done q h g = absurd g
  replace_one s j r q h g = absurd h
