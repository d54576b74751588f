-- Steps of a settled array of two blocks over members that tell nothing, and what is no step. Both blocks are of file 3.
use Rattle.std.proofs.Common.{◌≡◌, ◌≢◌, ◌<◌, ◌^◌, inl, inr, ℕ, zero, suc, Bool, true, false, List, [], ◌∷◌, ap, refl, arith, sym, ◌∙◌, length, get_or}
use Rattle.std.proofs.lemmas.Bool.{false≢true}
use Rattle.std.specs.Prelude.{Option, Some, None, Result, Ok, Err, cond, is_some, ◌==◌}
use Rattle.std.specs.List.{list_any}
use Rattle.std.specs.Option.{unwrap_or}
use Rattle.ufs_model.specs.Blocks.{area_of, area_within, bind}
use Rattle.ufs_model.specs.Numbers.{number_at}
use Rattle.ufs_model.specs.Listings.{Listed}
use Rattle.ufs_model.specs.Paths.{volume_geometry}
use Rattle.ufs_model.specs.Readings.{and_then}
use Rattle.ufs_model.specs.Superblocks.{endian_of, fields, geometry_by, geometry_in, geometry_of, superblock_of}
use Rattle.ufs_model.specs.Trees.{tree_of}
use Rattle.ufs_model.specs.declared.geometries.BadSuper.TheVariants.{Magic}
use Rattle.ufs_model.specs.declared.reads.BadRead.TheVariants.{Super as BadSuperblock}
use Rattle.ufs_model.specs.declared.reads.PathRefusal.TheVariants.{Bad}
use Rattle.dg_model.specs.Changes.{SeesWants}
use Rattle.dg_model.specs.Copies.{emptiest, spread_over}
use Rattle.dg_model.specs.Marks.{is_marked}
use Rattle.dg_model.specs.Members.{is_filling, is_good, partner_of}
use Rattle.dg_model.specs.Moves.{missing, moves, round, tidying}
use Rattle.dg_model.specs.Plans.{place_kept, place_stray, place_with, plan, roomiest, stay, targets_of}
use Rattle.dg_model.specs.Saves.{CanBeSaved, body_of}
use Rattle.dg_model.specs.Shapes.{IsShape}
use Rattle.dg_model.specs.Seals.{LastLabel}
use Rattle.dg_model.specs.States.{State, gone_in, saved_of}
use Rattle.dg_model.specs.Steps.{Step}
use Rattle.dg_model.specs.Sites.{has_site}
use Rattle.dg_model.specs.Tables.{IsFree, IsTable, Table, empty_table, lowest_free, sites_in}
use Rattle.dg_model.specs.Wants.{want_of}
use Rattle.dg_model.specs.declared.events.Event.TheVariants.{Diffuse, Home as HomeEvent, Pending, Rebuild, Replace, Save, Settle, Tree, Who}
use Rattle.dg_model.specs.declared.members.MemberState.{MemberState}
use Rattle.dg_model.specs.declared.members.MemberState.TheVariants.{Good, Filling, Out}
use Rattle.dg_model.specs.declared.phases.Phase.TheVariants.{Loose, Settled, Worn}
use Rattle.dg_model.specs.declared.replies.Reply.TheVariants.{Blocks, Copied, Diffused, Done, HomeAt, Nodes, Lost, Refused, Saved, Settled as SettledReply, Unavailable, Verdict}
use Rattle.dg_model.specs.declared.verdicts.Who.TheVariants.{Dead, Pending as IsPending}
use Rattle.dg_model.specs.declared.homes.Home.{Home}
use Rattle.dg_model.specs.declared.sites.Site.{Site}
use Rattle.dg_model.specs.declared.wants.Want.{Want}
use Rattle.dg_model.specs.declared.wants.Want.TheVariants.{File}
use Rattle.dg_model.proofs.PlanRows.{home, on}
use Rattle.dg_model.proofs.PutLaws.{IsTable-empty, IsTable-put}
use Rattle.dg_model.proofs.StepRows.{Rest, all_good, array_read, array_with, before, both_on_1, goes, is_loose, not_filling, nothing, reads, shape, table_with}
use Rattle.dg_model.proofs.VerdictRows.{blocks, not_dead, plain}

-- ---- settled: both blocks stand on boundary 0, which is the file's home

abbrev pub both_on_0 : Table
both_on_0 = table_with (on 0 0 ∷ []) (on 0 1 ∷ [])

abbrev pub at_home : Rest
at_home = record { homes = home 3 0 ∷ []; copies = []; phase = Settled; recent = [] }

abbrev pub of_file : List (Option Want)
of_file = Some (File 3) ∷ Some (File 3) ∷ []

written : (b : ℕ) → is_some (want_of of_file b) ≡ has_site (sites_in both_on_1 b)
written zero = refl
written (suc zero) = refl
written (suc (suc b)) = refl

sees : SeesWants ⊥ before of_file
sees = record { fit = record { size = refl; written = written }; are = λ told. absurd told }

settled : Step ⊥ before Settle SettledReply (array_with both_on_0 at_home 9)
unfolding all_good missing moves round tidying lowest_free plan place_kept stay place_with place_stray roomiest targets_of
settled = (
  refl,
  inr (
    is_loose,
    refl,
    record {
      wants = of_file;
      found = record { homes = home 3 0 ∷ []; strays = [] };
      planned = record { parents = []; sees_wants = sees; sees_parents = λ told. absurd told; is = refl };
      goes = goes both_on_1 both_on_0 nothing at_home;
      sound = λ told. absurd told;
      rest = refl;
      still = λ none. absurd (omega (arith, none));
    },
  ),
)

-- ---- copies: the file was read last

abbrev read_last : Rest
read_last = record { homes = home 3 0 ∷ []; copies = []; phase = Settled; recent = 3 ∷ [] }

abbrev copied : Rest
copied = record { homes = home 3 0 ∷ []; copies = home 3 1 ∷ []; phase = Settled; recent = 3 ∷ [] }

abbrev on_both : Table
on_both = table_with (on 0 0 ∷ on 1 0 ∷ []) (on 0 1 ∷ on 1 1 ∷ [])

pub written_0 : (b : ℕ) → is_some (want_of of_file b) ≡ has_site (sites_in both_on_0 b)
written_0 zero = refl
written_0 (suc zero) = refl
written_0 (suc (suc b)) = refl

diffused : Step ⊥ (array_with both_on_0 read_last 5) Diffuse (Diffused 1) (array_with on_both copied 9)
unfolding all_good spread_over emptiest lowest_free
diffused = (
  refl,
  refl,
  refl,
  record {
    wants = of_file;
    seen = record { fit = record { size = refl; written = written_0 }; are = λ told. absurd told };
    goes = goes both_on_0 on_both read_last copied;
    spread = refl;
    gained_is = refl;
    rest = refl;
    still = λ none. absurd (false≢true (sym none));
  },
)

-- a file that has a copy already gets no other
diffused_again : Step ⊥ (array_with on_both copied 5) Diffuse (Diffused 0) (array_read on_both copied 9)
unfolding all_good spread_over emptiest lowest_free
diffused_again = (
  refl,
  refl,
  refl,
  record {
    wants = of_file;
    seen = record { fit = record { size = refl; written = written_both }; are = λ told. absurd told };
    goes = (reads on_both copied).goes;
    spread = refl;
    gained_is = refl;
    rest = refl;
    still = λ none. refl;
  },
)
  where
    written_both : (b : ℕ) → is_some (want_of of_file b) ≡ has_site (sites_in on_both b)
    written_both zero = refl
    written_both (suc zero) = refl
    written_both (suc (suc b)) = refl

-- outside the phase settled there are no copies
diffuses_loose : (Known : Type 0) (old : State) (gained : ℕ) (new : State) → Step Known (record old { phase = Loose }) Diffuse (Diffused gained) new → ⊥
diffuses_loose Known old gained new h = is_loose h.0

-- ---- homes and trees

home_told : Step ⊥ (array_with on_both copied 5) (HomeEvent []) (HomeAt 0 (Some 1)) (array_read on_both copied 9)
unfolding all_good
home_told = (refl, (3, record { rule = λ told. absurd told; cause = tt; unwritten = refl }, refl, refl), reads on_both copied)

not_on_1 : (b : Bool) → ◌≡◌ {A = Option ℕ} (cond b (Some 0) None) (Some 1) → ⊥
not_on_1 true e = let at = ap (λ (o : Option ℕ). unwrap_or o 0) e in omega (arith, at)
not_on_1 false e = false≢true (ap (λ (o : Option ℕ). is_some o) e)

-- the home isn't another
other_home : (Known : Type 0) (path : List ℕ) (copy : Option ℕ) (new : State) → Step Known (array_with on_both copied 5) (HomeEvent path) (HomeAt 1 copy) new → ⊥
other_home Known path copy new h = not_on_1 (3 == h.1.0) h.1.2

-- where bytes are told and there is no volume, a tree is refused
none_needed : (tree_of 512 2 blocks).needs ≡ []
unfolding tree_of volume_geometry geometry_of superblock_of area_within area_of bind and_then geometry_in geometry_by endian_of fields number_at
none_needed = refl

tree_is : (tree_of 512 2 blocks).value ≡ Err (Bad (BadSuperblock Magic))
unfolding tree_of volume_geometry geometry_of superblock_of area_within area_of bind and_then geometry_in geometry_by endian_of fields number_at
tree_is = refl

tree_refused : Step (Unit {0}) (array_with both_on_0 at_home 5) Tree (Refused (Bad (BadSuperblock Magic))) (array_read both_on_0 at_home 9)
unfolding all_good
tree_refused = (
  refl,
  record {
    rule = λ told. record {
      unavailable = λ gone. absurd (false≢true (sym (ap (λ needs. list_any (gone_in (array_with both_on_0 at_home 5)) needs) none_needed) ∙ gone));
      answer = sym tree_is;
      only = tt;
    };
    cause = tt;
    unwritten = refl;
  },
  reads both_on_0 at_home,
)

is_refused : {A E : Type 0} → Result A E → Bool
is_refused (Ok a) = false
is_refused (Err e) = true

-- and not listed
tree_listed : (entries : List Listed) (new : State) → Step (Unit {0}) (array_with both_on_0 at_home 5) Tree (Nodes entries) new → ⊥
unfolding is_refused
tree_listed entries new h = false≢true (ap (λ r. is_refused r) ((h.1.rule tt).answer ∙ tree_is))

-- ---- verdicts and pending blocks

who_told : Step (Unit {0}) before (Who 0) (Verdict IsPending) before
who_told = (omega arith, (λ e. phase_apart e), (λ told. (plain before.table.rows 0, refl)), refl)
  where
    phase_apart : Loose ≡ Worn → ⊥
    phase_apart e = cc

-- a pending block isn't dead, and outside the phase worn there is an answer
who_dead : (new : State) → Step (Unit {0}) before (Who 0) (Verdict Dead) new → ⊥
who_dead new h = not_dead before.table.rows (true ∷ false ∷ []) 0 (h.2 tt)

who_unavailable : (Known : Type 0) (b : ℕ) (new : State) → Step Known before (Who b) Unavailable new → ⊥
who_unavailable Known b new h = phase_apart h.1
  where
    phase_apart : Loose ≡ Worn → ⊥
    phase_apart e = cc

pending_told : (Known : Type 0) → Step Known before Pending (Blocks (0 ∷ [])) before
pending_told Known = (refl, refl)

pending_none : (Known : Type 0) (new : State) → Step Known before Pending (Blocks []) new → ⊥
pending_none Known new h = let e = ap (λ (l : List ℕ). length l) h.0 in omega (arith, e)

-- ---- saved: the first label is on all members

all_marks : List Bool
all_marks = true ∷ true ∷ true ∷ true ∷ []

abbrev first_label : LastLabel
first_label = record {
  format = 2;
  sequence = 1;
  sealed = true;
  shape = shape;
  body = body_of 2 (saved_of (array_with both_on_0 at_home 5) all_marks);
  keepers = λ q. is_good (all_good q);
  bodies = λ q. is_good (all_good q);
  numbers = λ q. q;
}

marks_good : (q : ℕ) → is_marked all_marks q ≡ is_good (all_good q)
unfolding all_good all_marks
marks_good zero = refl
marks_good (suc zero) = refl
marks_good (suc (suc zero)) = refl
marks_good (suc (suc (suc zero))) = refl
marks_good (suc (suc (suc (suc q)))) = refl

valid : IsShape shape
valid = record {
  block = inl refl;
  least_blocks = omega arith;
  most_blocks = omega arith;
  least_boundaries = omega arith;
  most_boundaries = omega arith;
  least_slots = omega arith;
  most_slots = omega arith;
  room = omega arith;
  sites = omega arith;
  least_places = omega arith;
  most_places = omega arith;
}

nothing_below : (k : ℕ) → k < 0 → ⊥
nothing_below k low = omega (arith, low)

free_at_first : IsFree (empty_table shape) 0 0
free_at_first zero (x, low, is) = nothing_below x low
free_at_first (suc zero) (x, low, is) = nothing_below x low
free_at_first (suc (suc b)) (x, low, is) = nothing_below x low

free_behind : IsFree (table_with (on 0 0 ∷ []) []) 0 1
free_behind zero (zero, low, is) = omega (arith, ap (λ (x : Site). x.slot) is)
free_behind zero (suc x, low, is) = omega (arith, low)
free_behind (suc zero) (x, low, is) = nothing_below x low
free_behind (suc (suc b)) (x, low, is) = nothing_below x low

stands : IsTable both_on_0
stands =
    IsTable-put (table_with (on 0 0 ∷ []) []) 1 (record { boundary = 0; slot = 1 }) (omega arith)
    (IsTable-put (empty_table shape) 0 (record { boundary = 0; slot = 0 }) (omega arith) (IsTable-empty shape valid) (omega arith) (omega arith) free_at_first refl (omega arith))
    (omega arith) (omega arith) free_behind refl (omega arith)

low_home : (k : ℕ) (d : Home) → k < 1 → (let home = get_or (home 3 0 ∷ []) k d in (home.inode < 2 ^ 32) × (home.boundary < 2))
low_home zero d low = (omega arith, omega arith)
low_home (suc k) d low = absurd (omega (arith, low))

can_be_saved : CanBeSaved (saved_of (array_with both_on_0 at_home 5) all_marks)
unfolding all_marks
can_be_saved = record {
  members = refl;
  table = stands;
  marks = refl;
  homes = ((λ k low. absurd (omega (arith, low))), low_home);
  few_homes = omega arith;
  copies = ((λ k low. absurd (omega (arith, low))), (λ k d low. absurd (nothing_below k low)));
  settled = λ some. refl;
  elsewhere = λ i t e. absurd (false≢true (ap (λ (o : Option ℕ). is_some o) e));
  few_recent = omega arith;
  recent = λ k d low. absurd (nothing_below k low);
  once = λ i j d less low. absurd (nothing_below j low);
}

saved : Step ⊥ (array_with both_on_0 at_home 5) Save (Saved 1) (record (array_with both_on_0 at_home 9) { label = Some first_label })
unfolding all_good all_marks
saved = record {
  passes = record {
    counts = record { faults = λ q. omega arith; calls = omega arith; writes = omega arith };
    members = λ q. inl refl;
    paired = not_filling;
    faults = record { fell = λ q low less. absurd (omega (arith, less)); beyond = λ q high. refl };
    out = λ q was. refl;
  };
  some = (0, refl);
  marks = all_marks;
  marks_are = record { size = refl; still = λ q e. marks_good q ∙ e; before = λ q e. sym (marks_good q) ∙ e };
  form = can_be_saved;
  next = refl;
  rest = refl;
}

-- a save has the next number
saved_otherwise : (Known : Type 0) (new : State) → Step Known (array_with both_on_0 at_home 5) Save (Saved 2) new → ⊥
saved_otherwise Known new h = omega (arith, h.next)

-- and isn't lost while a member is good
saved_lost : (Known : Type 0) (old new : State) → ((q : ℕ) → new.members q ≡ Good) → Step Known old Save (Lost 0) new → ⊥
saved_lost Known old new good h = false≢true (sym (h.1.none 0) ∙ ap is_good (good 0))

-- ---- replaced: member 0 failed, and is out

one_out : ℕ → MemberState
one_out zero = Out
one_out (suc q) = all_good (suc q)

one_filling : ℕ → MemberState
one_filling zero = Filling 0
one_filling (suc q) = all_good (suc q)

abbrev out : State
out = record (array_with both_on_0 at_home 5) { members = one_out }

abbrev filling : ℕ → State
filling calls = record (array_with both_on_0 at_home calls) { members = one_filling }

paired_filling : (q : ℕ) → is_filling (one_filling q) ≡ true → is_good (one_filling (partner_of q)) ≡ true
unfolding all_good one_filling
paired_filling zero e = refl
paired_filling (suc zero) e = absurd (false≢true e)
paired_filling (suc (suc zero)) e = absurd (false≢true e)
paired_filling (suc (suc (suc zero))) e = absurd (false≢true e)
paired_filling (suc (suc (suc (suc q)))) e = absurd (false≢true e)

others_same : (q : ℕ) → q ≢ 0 → one_filling q ≡ one_out q
unfolding one_filling one_out
others_same zero e = absurd (e refl)
others_same (suc q) e = refl

replaced : Step ⊥ out (Replace 0 0) Done (filling 9)
unfolding all_good one_out one_filling
replaced = (
  record { boundary = omega arith; side = omega arith },
  refl,
  (λ lost. false≢true lost),
  record {
    passes = record {
      counts = record { faults = λ q. omega arith; calls = omega arith; writes = omega arith };
      label = record { opens = true; rose = λ a b. refl; stood = λ e. absurd (omega (arith, e)); is = refl };
      paired = paired_filling;
      faults = record { fell = λ q low less. absurd (omega (arith, less)); beyond = λ q high. refl };
    };
    blank = refl;
    others = λ q e. inl (others_same q e);
    out = λ q e was. refl;
    rest = refl;
  },
)

-- a member that isn't out isn't replaced
replaced_good : (Known : Type 0) (new : State) → Step Known before (Replace 0 0) Done new → ⊥
unfolding all_good
replaced_good Known new h = false≢true (sym (ap is_good h.1))

-- ---- refilled: member 0 is given the two used slots of its boundary

others_good : (q : ℕ) → q ≢ 0 → all_good q ≡ one_filling q
unfolding one_filling
others_good zero e = absurd (e refl)
others_good (suc q) e = refl

rebuilt : Step ⊥ (filling 5) (Rebuild 0 9) (Copied 2 0) (array_with both_on_0 at_home 9)
unfolding all_good one_filling
rebuilt = (
  omega arith,
  (λ lost. false≢true lost),
  record {
    q = 0;
    low = 0;
    high = 3;
    filling = (refl, refl);
    refills = record { copied = refl; limit = omega arith; end = inl refl; rest = refl };
    slots = record {
      reaped = λ b. false;
      passes = record {
        counts = record { faults = λ q. omega arith; calls = omega arith; writes = omega arith };
        label = record { opens = true; rose = λ a b. refl; stood = λ e. absurd (omega (arith, e)); is = refl };
        paired = not_filling;
        faults = record { fell = λ q low less. absurd (omega (arith, less)); beyond = λ q high. refl };
      };
      out = λ q was. refl;
      kept = λ told. absurd told;
      reaps = record {
        run = omega arith;
        within = omega arith;
        passed = λ b e. absurd (false≢true e);
        shape = refl;
        rows = refl;
        sites = λ b. refl;
        count = refl;
        values = λ b. refl;
      };
      may = record {
        none = λ e b. refl;
        marks = λ b e. absurd (false≢true e);
        dead = λ told. absurd told;
        all = λ told. absurd told;
      };
      rest = refl;
    };
    member = refl;
    others = λ q e. inl (others_good q e);
  },
)

-- no more slots are copied than the limit allows
rebuilt_more : (Known : Type 0) (old : State) (l : ℕ) (new : State) → Step Known old (Rebuild 0 1) (Copied 2 l) new → ⊥
rebuilt_more Known old l new h = omega (arith, h.2.refills.limit)
