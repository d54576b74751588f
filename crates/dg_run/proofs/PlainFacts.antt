-- What is told of a rack without headers by the members that are seen of it is told of the members of the rack of the run. One on which a call failed while headers
-- were read isn't seen, so it is out.
use Rattle.std.proofs.Common.{◌≡◌, ◌⊎◌, ◌∙◌, ◌/◌, ◌<◌, ◌≤◌, ℕ, Bool, true, false, List, [], ap, arith, inl, inr, refl, subst, sym}
use Rattle.std.specs.Prelude.{IfSome, IsSome, None, Option, Some}
use Rattle.std.proofs.lemmas.Bool.{cases_order, false≢true}
use Rattle.std.proofs.lemmas.List.Elements.{All-weaker}
use Rattle.dg_io.specs.MadeLaws.{same_both, same_told}
use Rattle.dg_io.specs.Told.{IsSame, StillTold, Told}
use Rattle.dg_model.specs.Blocks.{block_in}
use Rattle.dg_model.specs.Causes.{Rose}
use Rattle.dg_model.specs.Members.{HasFallen, MembersFall, SlotHolds, SlotOf, is_filling, partner_of, serves}
use Rattle.dg_model.specs.Openings.{Found, HasOwnLabel, MayBeGood, Opens}
use Rattle.dg_model.specs.Saves.{Label, SavedState}
use Rattle.dg_model.specs.States.{Counts, CountsRise, StandsFor, State, is_broken}
use Rattle.dg_model.specs.Tables.{Table, sites_in}
use Rattle.dg_model.specs.declared.members.MemberState.{MemberState}
use Rattle.dg_model.specs.declared.members.MemberState.TheVariants.{Good, Out}
use Rattle.dg_model.specs.declared.sites.Site.{Site}
use Rattle.dg_open.specs.Founds.{AreRead, IsRead}
use Rattle.dg_saved.specs.Calls.{Facts}
use Rattle.dg_saved.specs.Ends.{WereSuch}
use Rattle.dg_saved.specs.OpeningLaws.{next_less, reopened_on}
use Rattle.dg_saved.specs.Saved.{FoundNoState, FoundUnclean, HasLooked, HasSource, IsKnown, IsOpenedAs, had}
use Rattle.dg_volume.specs.Besides.{CannotOpen, IsEnough, IsKept}

-- ---- the members that are seen

-- the counts of the rack of the run at a moment at which these were seen
pub record AreCounts (facts : Facts) (seen now : Counts) : Type 0 where
  pub faults : (q : ℕ) → q < 32 → now.faults q ≡ seen.faults q
  pub calls : now.calls ≡ seen.calls
  pub writes : now.writes ≡ seen.writes
  pub past : (q : ℕ) → 32 ≤ q → now.faults q ≡ facts.before.faults q

-- How what is seen goes with what is met of the rack of the run. Members below 32 are seen as they are, but for the hidden ones, which never stood; of the others none
-- is seen.
pub record SeesPlain (such : ℕ → Type 0) (seen facts : Facts) : Type 0 where
  pub hidden : ℕ → Bool
  pub never : (q : ℕ) → hidden q ≡ true → such q → ⊥
  pub failed : (q : ℕ) → hidden q ≡ true → Rose (facts.before.faults q) (seen.before.faults q)
  pub begun : (q : ℕ) → q < 32 → hidden q ≡ false → seen.before.faults q ≡ facts.before.faults q
  pub rise : (q : ℕ) → q < 32 → facts.before.faults q ≤ seen.before.faults q
  pub calls : facts.before.calls ≤ seen.before.calls
  pub writes : seen.before.writes ≡ facts.before.writes
  pub same : (q : ℕ) → q < 32 → hidden q ≡ false → Told IsSame (facts.images q) (seen.images q)
  pub bare : (q : ℕ) → hidden q ≡ true → Told (λ before after. after ≡ []) (facts.images q) (seen.images q)
  pub told : (q : ℕ) → q < 32 → IsSome (facts.bytes q) → IsSome (seen.bytes q)
  pub still : StillTold seen.images seen.bytes
  pub extra : seen.extra ≡ facts.extra
  pub none : facts.extra ≡ []
  pub room : seen.room ≡ facts.room

-- where what is seen is of the same moment
pub record SeesNow (such : ℕ → Type 0) (seen facts : Facts) : Type 0 where
  pub sees : SeesPlain such seen facts
  pub now : AreCounts facts seen.now facts.now
  pub bytes : (q : ℕ) → q < 32 → sees.hidden q ≡ false → seen.bytes q ≡ facts.bytes q
  pub bare : (q : ℕ) → sees.hidden q ≡ true → Told (λ before after. after ≡ []) (facts.bytes q) (seen.bytes q)
  pub kept : (q : ℕ) → sees.hidden q ≡ true → Told IsSame (facts.images q) (facts.bytes q)
  pub past : (q : ℕ) → 32 ≤ q → Told IsSame (facts.images q) (facts.bytes q)

pub low_or_past : (q : ℕ) → (q < 32) ⊎ (32 ≤ q)
low_or_past q = by (cases_order q 32) where
  by : (q ≡ 32) ⊎ ((q < 32) ⊎ (32 < q)) → (q < 32) ⊎ (32 ≤ q)
  by (inl level) = inr (omega (arith, level))
  by (inr (inl less)) = inl less
  by (inr (inr more)) = inr (omega (arith, more))

pub either : (b : Bool) → (b ≡ true) ⊎ (b ≡ false)
either true = inl refl
either false = inr refl

-- ---- bytes

some_is : (o : Option (List ℕ)) → IsSome o → (all : List ℕ) × (o ≡ Some all)
some_is None some = absurd (false≢true some)
some_is (Some all) some = (all, refl)

-- bytes without any have no label
unlabeled : (q : ℕ) (label : Label) → HasOwnLabel q [] label → ⊥
unlabeled q label own = elim own.size [
  | inl size ↦ omega (arith, size)
  | inr size ↦ omega (arith, size.1)
]

-- a member whose slots are told holds them still, where it has the bytes that are told of it
pub stands_by : (table : Table) (members : ℕ → MemberState) (x y : ℕ → Option (List ℕ)) (V : List (List ℕ)) → ((q : ℕ) → (members q ≡ Out) ⊎ Told IsSame (x q) (y q)) → StandsFor table members x V
    → StandsFor table members y V
stands_by table members x y V same h = record {
  size = h.size;
  blank = h.blank;
  held = λ b low. All-weaker (λ (site : Site). SlotHolds table.shape.l members x site.boundary site.slot (block_in V b))
      (λ (site : Site). SlotHolds table.shape.l members y site.boundary site.slot (block_in V b))
      (λ site holds q at served. slot (block_in V b) site.slot q (same q) served (holds q at served)) (sites_in table b) (h.held b low);
} where
  told : (v : List ℕ) (n : ℕ) (a b : Option (List ℕ)) → Told IsSame a b → SlotOf table.shape.l n v a → SlotOf table.shape.l n v b
  told v n a None same holds = tt
  told v n None (Some all) same holds = absurd same
  told v n (Some old) (Some all) same holds = subst (λ (o : List ℕ). SlotOf table.shape.l n v (Some o)) (sym same) holds

  slot : (v : List ℕ) (n q : ℕ) → (members q ≡ Out) ⊎ Told IsSame (x q) (y q) → serves (members q) n ≡ true → SlotOf table.shape.l n v (x q) → SlotOf table.shape.l n v (y q)
  slot v n q (inl out) served holds = absurd (false≢true (sym (ap (λ (m : MemberState). serves m n) out) ∙ served))
  slot v n q (inr same) served holds = told v n (x q) (y q) same holds

-- ---- what was taken

-- what is told now was told when it was seen, and is the same
had_as : (P Q : List ℕ → Type 0) (i b x y : Option (List ℕ)) → (IsSome b → IsSome y) → (IsSome y → IsSome x) → IfSome (had x y) Q → (IsSome x → IfSome x Q → IfSome i P) → IfSome (had i b) P
had_as P Q i None x y told still h by = tt
had_as P Q i (Some b) x None told still h by = absurd (false≢true (told refl))
had_as P Q i (Some b) x (Some y) told still h by = by (still refl) h

now_as : (P Q : List ℕ → Type 0) (b y : Option (List ℕ)) → (IsSome b → IsSome y) → IfSome y Q → (IsSome y → IfSome y Q → IfSome b P) → IfSome b P
now_as P Q None y told h by = tt
now_as P Q (Some b) y told h by = by (told refl) h

module _ (taken : ℕ → Option Found) (q x u y v : ℕ) where
  abbrev At : ℕ → ℕ → List ℕ → Type 0
  At before now all = IsRead taken q before now all (taken q)

  read_same : (a b : Option (List ℕ)) → x ≡ u → y ≡ v → Told IsSame a b → IsSome b → IfSome b (At x y) → IfSome a (At u v)
  read_same None b one other same some h = tt
  read_same (Some old) None one other same some h = absurd (false≢true some)
  read_same (Some old) (Some new) one other same some h =
      subst (λ (n : ℕ). At n v old) one (subst (λ (n : ℕ). At x n old) other (subst (λ (o : List ℕ). At x y o) same h))

  read_none : (found : Option Found) (all : List ℕ) → Rose u v → IsRead taken q x y [] found → IsRead taken q u v all found
  read_none None all rose h = inr rose
  read_none (Some found) all rose h = absurd (unlabeled q found.label h.0)

  read_bare : (a b : Option (List ℕ)) → Rose u v → Told (λ before after. after ≡ []) a b → IsSome b → IfSome b (At x y) → IfSome a (At u v)
  read_bare None b rose bare some h = tt
  read_bare (Some old) None rose bare some h = absurd (false≢true some)
  read_bare (Some old) (Some new) rose bare some h = read_none (taken q) old rose (subst (λ (o : List ℕ). At x y o) bare h)

rose_on : (a b c d : ℕ) → Rose a b → b ≤ c → d ≡ c → Rose a d
rose_on a b c d rose later same = omega (arith, rose, later, same)

module _ (such : ℕ → Type 0) (seen facts : Facts) (sees : SeesPlain such seen facts) where
  -- no count fell
  pub rises : (opened now : Counts) → AreCounts facts opened now → CountsRise seen.before opened → CountsRise facts.before now
  rises opened now are rise = record {
    faults = λ q. elim (low_or_past q) [
      | inl low ↦ (let up = sees.rise q low in let on = rise.faults q in let at = are.faults q low in omega (arith, up, on, at))
      | inr past ↦ (let same = are.past q past in omega (arith, same))
    ];
    calls = omega (arith, sees.calls, rise.calls, are.calls);
    writes = omega (arith, sees.writes, rise.writes, are.writes);
  }

  -- ---- an array was opened

  module _ (opened : Counts) (source : HasSource seen opened) (were : WereSuch such source) (now : Counts) (are : AreCounts facts opened now) where
    not_good : (label : Label) (saved : SavedState) (q : ℕ) → 32 ≤ q → MayBeGood source.taken label saved q → ⊥
    not_good label saved q past may = let same : Some may.found ≡ None = sym may.there ∙ source.read.others q past in cc same

    past_first : (q : ℕ) → 32 ≤ q → source.first q ≡ Out
    past_first q past = elim (source.first_are q) [
      | inl good ↦ absurd (not_good source.label source.saved q past good.1)
      | inr out ↦ out
    ]

    hidden_first : (q : ℕ) → sees.hidden q ≡ true → source.first q ≡ Out
    hidden_first q hid = elim (source.first_are q) [
      | inl good ↦ absurd (sees.never q hid (were q (λ out. (let same : Good ≡ Out = sym good.0 ∙ out in cc same))))
      | inr out ↦ out
    ]

    out_on : (q : ℕ) → source.first q ≡ Out → source.members q ≡ Out
    out_on q out = elim (source.falls q) [ inl same ↦ same ∙ out | inr fell ↦ fell.out ]

    pub past_out : (q : ℕ) → 32 ≤ q → source.members q ≡ Out
    past_out q past = out_on q (past_first q past)

    pub hidden_out : (q : ℕ) → sees.hidden q ≡ true → source.members q ≡ Out
    hidden_out q hid = out_on q (hidden_first q hid)

    rose_hidden : (q : ℕ) → q < 32 → sees.hidden q ≡ true → Rose (facts.before.faults q) (now.faults q)
    rose_hidden q low hid = rose_on _ _ _ _ (sees.failed q hid) (source.rise.faults q) (are.faults q low)

    rose_shown : (q : ℕ) → q < 32 → sees.hidden q ≡ false → Rose (seen.before.faults q) (opened.faults q) → Rose (facts.before.faults q) (now.faults q)
    rose_shown q low shown rose = let same = sees.begun q low shown in let at = are.faults q low in omega (arith, same, at, rose)

    pub read_then : AreRead (λ q. had (facts.images q) (facts.bytes q)) facts.before.faults now.faults source.taken
    read_then = record {
      each = λ q low.
          had_as (At source.taken q (seen.before.faults q) (facts.before.faults q) (opened.faults q) (now.faults q) (facts.before.faults q) (now.faults q))
          (At source.taken q (seen.before.faults q) (facts.before.faults q) (opened.faults q) (now.faults q) (seen.before.faults q) (opened.faults q))
          (facts.images q) (facts.bytes q) (seen.images q) (seen.bytes q) (sees.told q low) (sees.still q) (source.read.each q low)
          (λ some h. elim (either (sees.hidden q)) [
            | inl hid ↦ read_bare source.taken q _ _ _ _ (facts.images q) (seen.images q) (rose_hidden q low hid) (sees.bare q hid) some h
            | inr shown ↦ read_same source.taken q _ _ _ _ (facts.images q) (seen.images q) (sees.begun q low shown) (sym (are.faults q low)) (sees.same q low shown) some h
          ]);
      others = source.read.others;
    }

    pub fell_then : (q : ℕ) → facts.before.faults q < now.faults q → source.members q ≡ Out
    fell_then q rose = elim (low_or_past q) [
      | inl low ↦ elim (either (sees.hidden q)) [
        | inl hid ↦ hidden_out q hid
        | inr shown ↦ source.fell q (let same = sees.begun q low shown in let at = are.faults q low in omega (arith, same, at, rose))
      ]
      | inr past ↦ past_out q past
    ]

    pub falls_then : MembersFall facts.before.faults now.faults source.first source.members
    falls_then q = by (low_or_past q) (either (sees.hidden q)) (source.falls q) where
      caused : q < 32 → sees.hidden q ≡ false
          → Rose (seen.before.faults q) (opened.faults q) ⊎ ((is_filling (source.first q) ≡ true) × (source.members (partner_of q) ≡ Out))
          → Rose (facts.before.faults q) (now.faults q) ⊎ ((is_filling (source.first q) ≡ true) × (source.members (partner_of q) ≡ Out))
      caused low shown (inl rose) = inl (rose_shown q low shown rose)
      caused low shown (inr pair) = inr pair

      by : (q < 32) ⊎ (32 ≤ q) → (sees.hidden q ≡ true) ⊎ (sees.hidden q ≡ false)
          → (source.members q ≡ source.first q) ⊎ HasFallen seen.before.faults opened.faults source.first source.members q
          → (source.members q ≡ source.first q) ⊎ HasFallen facts.before.faults now.faults source.first source.members q
      by (inl low) (inl hid) h = inl (hidden_out q hid ∙ sym (hidden_first q hid))
      by (inl low) (inr shown) (inl same) = inl same
      by (inl low) (inr shown) (inr fell) = inr (record { out = fell.out; caused = caused low shown fell.caused })
      by (inr past) hid h = inl (past_out q past ∙ sym (past_first q past))

    -- what it was opened from
    abbrev pub from : HasSource facts now
    from = record {
      kept = source.kept;
      is_kept = subst (λ (l : List ℕ). IsKept l source.kept) sees.extra source.is_kept;
      taken = source.taken;
      read = read_then;
      rise = rises opened now are source.rise;
      writes = are.writes ∙ source.writes ∙ sees.writes;
      source = source.source;
      label = source.label;
      saved = source.saved;
      is_source = source.is_source;
      beside = source.beside;
      stands = source.stands;
      enough = subst (λ (o : Option ℕ). IsEnough source.saved.table.shape.n o) sees.room source.enough;
      first = source.first;
      first_are = source.first_are;
      members = source.members;
      fell = fell_then;
      falls = falls_then;
    }

    -- where blocks are known of the rack of the run they are known of what is seen
    pub known_seen : (tells told : ℕ → Type 0) → ((q : ℕ) → q / 2 < source.saved.table.shape.b → tells q → told q) → (V : List (List ℕ)) → IsKnown tells facts now from V
        → IsKnown told seen opened source V
    known_seen tells told each V known = (
      (λ q below. each q below (known.0 q below)),
      stands_by source.saved.table source.first facts.images seen.images V same known.1,
    ) where
      same : (q : ℕ) → (source.first q ≡ Out) ⊎ Told IsSame (facts.images q) (seen.images q)
      same q = elim (low_or_past q) [
        | inl low ↦ elim (either (sees.hidden q)) [
          | inl hid ↦ inl (hidden_first q hid)
          | inr shown ↦ inr (sees.same q low shown)
        ]
        | inr past ↦ inl (past_first q past)
      ]

    opens_then : {K J : Type 0} (w : J → K) (state : State) → state.counts ≡ opened → state.members ≡ source.members → Opens K source.taken source.beside seen.before state
        → Opens J source.taken source.beside facts.before (record state { counts = now })
    opens_then w state counts members h = record {
      source = h.source;
      label = h.label;
      saved = h.saved;
      is_source = h.is_source;
      reduced = h.reduced;
      reduced_is = h.reduced_is;
      fits = h.fits;
      boundaries = h.boundaries;
      live = h.live;
      cut = h.cut;
      table = h.table;
      homes = h.homes;
      recent = h.recent;
      good = h.good;
      out = λ q. out_by q (h.out q);
      fell = λ q rose. ap (λ (m : ℕ → MemberState). m q) members ∙ fell_then q rose;
      pending = next_less w (is_broken state) state.table.shape.l state.table.shape.n state.blocks h.saved.pending state.pending h.pending;
      phase = reopened_on w h.saved state now h.phase;
      label_is = h.label_is;
      body = h.body;
      counts = rises opened now are source.rise;
    } where
      rose_at : (q : ℕ) → (MayBeGood source.taken h.label h.saved q → Rose (seen.before.faults q) (state.counts.faults q)) → (q < 32) ⊎ (32 ≤ q) → (sees.hidden q ≡ true) ⊎ (sees.hidden q ≡ false)
          → MayBeGood source.taken h.label h.saved q → Rose (facts.before.faults q) (now.faults q)
      rose_at q rose (inl low) (inl hid) may = rose_hidden q low hid
      rose_at q rose (inl low) (inr shown) may =
          rose_shown q low shown (subst (λ (n : ℕ). Rose (seen.before.faults q) n) (ap (λ (c : Counts). c.faults q) counts) (rose may))
      rose_at q rose (inr past) hid may = absurd (not_good h.label h.saved q past may)

      out_by : (q : ℕ) → (state.members q ≡ Good) ⊎ ((state.members q ≡ Out) × (MayBeGood source.taken h.label h.saved q → Rose (seen.before.faults q) (state.counts.faults q)))
          → (state.members q ≡ Good) ⊎ ((state.members q ≡ Out) × (MayBeGood source.taken h.label h.saved q → Rose (facts.before.faults q) (now.faults q)))
      out_by q (inl good) = inl good
      out_by q (inr gone) = inr (gone.0, rose_at q gone.1 (low_or_past q) (either (sees.hidden q)))

    -- the state that it was opened in, with the counts of the rack of the run
    pub opened_as : (tells told : ℕ → Type 0) → ((q : ℕ) → q / 2 < source.saved.table.shape.b → tells q → told q) → (V : List (List ℕ)) (state : State)
        → IsOpenedAs told seen opened source V state → IsOpenedAs tells facts now from V (record state { counts = now })
    opened_as tells told each V state h = record {
      blocks = h.blocks;
      opens = opens_then (known_seen tells told each V) state h.counts h.members h.opens;
      table = h.table;
      members = h.members;
      counts = refl;
    }

-- ---- nothing was opened

module _ (such : ℕ → Type 0) (seen facts : Facts) (both : SeesNow such seen facts) where
  abbrev sees : SeesPlain such seen facts
  sees = both.sees

  told_on : (a b c d : Option (List ℕ)) → Told IsSame a b → Told IsSame b c → c ≡ d → Told IsSame a d
  told_on a b c d first second same = subst (λ (o : Option (List ℕ)). Told IsSame a o) same (same_both a b c first second)

  -- each member has the bytes that it had
  pub same_now : (q : ℕ) → Told IsSame (seen.images q) (seen.bytes q) → Told IsSame (facts.images q) (facts.bytes q)
  same_now q same = elim (low_or_past q) [
    | inl low ↦ elim (either (sees.hidden q)) [
      | inl hid ↦ both.kept q hid
      | inr shown ↦ told_on _ _ _ _ (sees.same q low shown) same (both.bytes q low shown)
    ]
    | inr past ↦ both.past q past
  ]

  looked : HasLooked seen → HasLooked facts
  looked h = record {
    kept = h.kept;
    is_kept = subst (λ (l : List ℕ). IsKept l h.kept) sees.extra h.is_kept;
    taken = h.taken;
    read = record {
      each = λ q low.
          now_as (At h.taken q (seen.before.faults q) (facts.before.faults q) (seen.now.faults q) (facts.now.faults q) (facts.before.faults q) (facts.now.faults q))
          (At h.taken q (seen.before.faults q) (facts.before.faults q) (seen.now.faults q) (facts.now.faults q) (seen.before.faults q) (seen.now.faults q))
          (facts.bytes q) (seen.bytes q) (sees.told q low) (h.read.each q low)
          (λ some read. elim (either (sees.hidden q)) [
            | inl hid ↦ read_bare h.taken q _ _ _ _ (facts.bytes q) (seen.bytes q) (rose_on _ _ _ _ (sees.failed q hid) (h.rise.faults q) (both.now.faults q low)) (both.bare q hid) some read
            | inr shown ↦ read_same h.taken q _ _ _ _ (facts.bytes q) (seen.bytes q) (sees.begun q low shown) (sym (both.now.faults q low))
                (itself (facts.bytes q) (seen.bytes q) (both.bytes q low shown)) some read
          ]);
      others = h.read.others;
    };
    same = λ q. same_now q (h.same q);
    rise = rises such seen facts sees seen.now facts.now both.now h.rise;
    writes = both.now.writes ∙ h.writes ∙ sees.writes;
  } where
    itself : (a b : Option (List ℕ)) → b ≡ a → Told IsSame a b
    itself a b same = subst (λ (o : Option (List ℕ)). Told IsSame a o) (sym same) (same_told a)

  pub found_no_state : FoundNoState seen → FoundNoState facts
  unfolding looked
  found_no_state (inl h) = inl (record { looked = looked h.looked; none = h.none })
  found_no_state (inr (inl h)) = inr (inl (record {
    looked = looked h.looked;
    source = h.source;
    label = h.label;
    saved = h.saved;
    is_source = h.is_source;
    cannot = subst (λ (o : Option ℕ). CannotOpen h.saved.table o h.looked.kept) sees.room h.cannot;
  }))
  found_no_state (inr (inr h)) = absurd (h.nothing.some (sees.extra ∙ sees.none))

  pub found_unclean : FoundUnclean seen → FoundUnclean facts
  unfolding looked
  found_unclean h = record { looked = looked h.looked; unclean = h.unclean }
