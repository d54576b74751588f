-- What a commit leaves of the members of an array.
use Rattle.std.proofs.Common.{◌≡◌, ◌≢◌, ◌∙◌, ◌⊎◌, ◌<◌, ◌≤◌, ◌+◌, ◌*◌, ◌/◌, ℕ, true, false, inl, inr, refl, sym, ap, subst, arith, List}
use Rattle.std.specs.Prelude.{◌==◌, Option}
use Rattle.std.proofs.lemmas.Bool.{cases_Bool, cases_eq, cases_lt, false≢true}
use Rattle.std.proofs.lemmas.Nat.Bits.{bit_at-zero}
use Rattle.dg_io.specs.Commits.{LeavesCommit, fell_in, is_marked}
use Rattle.dg_io.specs.declared.checkpoints.CommitAnswer.{CommitAnswer}
use Rattle.dg_io.specs.declared.outside.Rack.{Ghosts}
use Rattle.dg_model.proofs.MemberLaws.{NoneRecovers}
use Rattle.dg_model.specs.Members.{IsStruck, MembersFall, is_filling, is_good, partner_of}
use Rattle.dg_model.specs.Tables.{Table}
use Rattle.dg_model.specs.declared.members.MemberState.{MemberState}
use Rattle.dg_model.specs.declared.members.MemberState.TheVariants.{Out}
use Rattle.dg_pair.specs.Boundaries.{MembersStand}
use Rattle.dg_regroup.specs.Marks.{IsMarkedToo}
use Rattle.dg_store.specs.Commits.{CommitLeaves}
use Rattle.dg_store.specs.Stores.{IsSound, IsWhole, KeepsBlocks, members_of, rack_of, shape_of, table_of}
use Rattle.dg_store.specs.declared.store.Store.{Store}
use Rattle.dg_volume.proofs.ToldLaws.{StaysTold}
use Rattle.dg_volume.proofs.VolumeSteps.{struck_out}
use Rattle.dg_volume.specs.Commits.{AreFailed, AreGoodBits, CommitsArray, FailsMarked}

-- ---- marks of good members

-- of the members below a number
pub record AreGoodUpto (members : ℕ → MemberState) (n marks : ℕ) : Type 0 where
  pub below : (q : ℕ) → q < n → is_marked marks q ≡ is_good (members q)
  pub above : (q : ℕ) → n ≤ q → is_marked marks q ≡ false

pub good_begins : (members : ℕ → MemberState) → AreGoodUpto members 0 0
good_begins members = record { below = λ q low. absurd (omega (arith, low)); above = λ q past. ap (λ (bit : ℕ). bit == 1) (bit_at-zero q) }

pub good_step : (members : ℕ → MemberState) (n old new : ℕ) → AreGoodUpto members n old → (is_good (members n) ≡ true → IsMarkedToo old n new)
    → (is_good (members n) ≡ false → new ≡ old) → AreGoodUpto members (n + 1) new
good_step members n old new h good other = elim (cases_Bool (is_good (members n))) [
  | inl is_so ↦ let marks = good is_so in record {
    below = λ q low. elim (cases_eq q n) [
      | inl here ↦ ap (is_marked new) here ∙ marks.here ∙ sym is_so ∙ ap (λ (k : ℕ). is_good (members k)) (sym here)
      | inr apart ↦ marks.others q apart ∙ h.below q (omega (arith, low, apart))
    ];
    above = λ q past. marks.others q (λ here. omega (arith, here, past)) ∙ h.above q (omega (arith, past));
  }
  | inr other_so ↦ let same = other other_so in record {
    below = λ q low. ap (λ (k : ℕ). is_marked k q) same ∙ elim (cases_eq q n) [
      | inl here ↦ ap (is_marked old) here ∙ h.above n (omega arith) ∙ sym other_so ∙ ap (λ (k : ℕ). is_good (members k)) (sym here)
      | inr apart ↦ h.below q (omega (arith, low, apart))
    ];
    above = λ q past. ap (λ (k : ℕ). is_marked k q) same ∙ h.above q (omega (arith, past));
  }
]

pub good_ends : (members : ℕ → MemberState) (b n marks : ℕ) → n ≡ 2 * b → ((q : ℕ) → b ≤ q / 2 → members q ≡ Out) → AreGoodUpto members n marks → AreGoodBits members marks
good_ends members b n marks all others h q = elim (cases_lt q n) [
  | inl low ↦ h.below q low
  | inr high ↦ h.above q high ∙ ap is_good (sym (others q (omega (arith, all, high))))
]

-- ---- members that are made to fail

-- those that are marked, below a number
pub record IsFailedUpto {R : Type 0} (rack : Ghosts R) (marks n : ℕ) (old new : Store R) : Type 0 where
  pub whole : IsWhole rack new
  pub rack_is : rack_of new ≡ rack_of old
  pub table : table_of new ≡ table_of old
  pub out : (q : ℕ) → q < n → is_marked marks q ≡ true → members_of new q ≡ Out
  pub others : (q : ℕ) → is_marked marks q ≡ false
      → (members_of new q ≡ members_of old q) ⊎ ((is_filling (members_of old q) ≡ true) × (members_of new q ≡ Out) × (is_marked marks (partner_of q) ≡ true))
  pub blocks : KeepsBlocks rack old new

module _ {R : Type 0} (rack : Ghosts R) where
  pub failed_begins : (marks : ℕ) (store : Store R) → IsWhole rack store → IsFailedUpto rack marks 0 store store
  failed_begins marks store whole = record {
    whole = whole;
    rack_is = refl;
    table = refl;
    out = λ q low. absurd (omega (arith, low));
    others = λ q unmarked. inl refl;
    blocks = λ V stands. stands;
  }

  pub failed_step : (marks n : ℕ) (old mid new : Store R) → IsFailedUpto rack marks n old mid → IsWhole rack new → rack_of new ≡ rack_of mid → table_of new ≡ table_of mid
      → KeepsBlocks rack mid new → (is_marked marks n ≡ true → IsStruck n (members_of mid) (members_of new)) → (is_marked marks n ≡ false → members_of new ≡ members_of mid)
      → IsFailedUpto rack marks (n + 1) old new
  failed_step marks n old mid new h whole same table blocks marked other = record {
    whole = whole;
    rack_is = same ∙ h.rack_is;
    table = table ∙ h.table;
    out = λ q low is. elim (cases_eq q n) [
      | inl here ↦ ap (members_of new) here ∙ (marked (ap (is_marked marks) (sym here) ∙ is)).out
      | inr apart ↦ stays_out q (h.out q (omega (arith, low, apart)) is)
    ];
    others = λ q is. elim (h.others q is) [
      | inl still ↦ elim (changed q is) [ inl same_now ↦ inl (same_now ∙ still) | inr left ↦ inr (sym (ap is_filling still) ∙ left.0, left.1, left.2) ]
      | inr left ↦ inr (left.0, stays_out q left.1, left.2)
    ];
    blocks = λ V stands. blocks V (h.blocks V stands);
  }
    where
      stays_out : (q : ℕ) → members_of mid q ≡ Out → members_of new q ≡ Out
      stays_out q out = elim (cases_Bool (is_marked marks n)) [
        | inl is_so ↦ struck_out n (members_of mid) (members_of new) (marked is_so) q out
        | inr other_so ↦ ap (λ (m : ℕ → MemberState). m q) (other other_so) ∙ out
      ]

      changed : (q : ℕ) → is_marked marks q ≡ false
          → (members_of new q ≡ members_of mid q) ⊎ ((is_filling (members_of mid q) ≡ true) × (members_of new q ≡ Out) × (is_marked marks (partner_of q) ≡ true))
      changed q is = elim (cases_Bool (is_marked marks n)) [
        | inl is_so ↦ elim ((marked is_so).others q (λ here. false≢true (sym is ∙ ap (is_marked marks) here ∙ is_so))) [
          | inl still ↦ inl still
          | inr left ↦ inr (left.0, left.1, ap (is_marked marks) left.2 ∙ is_so)
        ]
        | inr other_so ↦ inl (ap (λ (m : ℕ → MemberState). m q) (other other_so))
      ]

  pub failed_ends : (marks b n : ℕ) (old new : Store R) → n ≡ 2 * b → ((q : ℕ) → is_marked marks q ≡ true → q < 2 * b) → IsFailedUpto rack marks n old new
      → FailsMarked rack marks old new
  failed_ends marks b n old new all below h = record {
    whole = h.whole;
    rack_is = h.rack_is;
    table = h.table;
    members = record { out = λ q is. let low = below q is in h.out q (omega (arith, all, low)) is; others = h.others };
    blocks = h.blocks;
  }

  -- ---- a commit

  -- a member that fell was good, and so one of the array
  pub fallen_below : (room : R → Option ℕ) (keep : ℕ) (extra : List ℕ) (answer : CommitAnswer) (old mid : Store R) → IsSound rack old → AreGoodBits (members_of old) keep
      → CommitLeaves rack room keep extra answer old mid → (q : ℕ) → is_marked (fell_in keep answer) q ≡ true → q < 2 * (shape_of mid).b
  fallen_below room keep extra answer old mid sound good h q fell = elim (cases_lt q (2 * (shape_of mid).b)) [
    | inl low ↦ low
    | inr high ↦
        let past : (shape_of old).b ≤ q / 2 = let same = ap (λ (t : Table). t.shape.b) h.table in omega (arith, same, high) in
        absurd (false≢true (sym (h.leaves.only q (good q ∙ ap is_good (sound.others q past))) ∙ fell))
  ]

  -- each member that isn't out stands then
  pub standing : (room : R → Option ℕ) (keep : ℕ) (extra : List ℕ) (answer : CommitAnswer) (old mid new : Store R) → IsSound rack old
      → CommitLeaves rack room keep extra answer old mid → FailsMarked rack (fell_in keep answer) mid new → MembersStand (members_of new) (rack.stands (rack_of new))
  standing room keep extra answer old mid new sound h fails q here = ap (λ (r : R). rack.stands r q) fails.rack_is ∙ elim (cases_Bool (is_marked (fell_in keep answer) q)) [
    | inl fell ↦ absurd (here (fails.members.out q fell))
    | inr stood ↦ h.stand sound q stood (λ out. elim (fails.members.others q stood) [
      | inl still ↦ here (still ∙ ap (λ (m : ℕ → MemberState). m q) h.members ∙ out)
      | inr left ↦ here left.1
    ])
  ]

  pub commits_array : (room : R → Option ℕ) (goes : R → R → Type 0) (keep : ℕ) (extra : List ℕ) (answer : CommitAnswer) (old mid new : Store R) → AreGoodBits (members_of old) keep
      → CommitLeaves rack room keep extra answer old mid → goes (rack_of old) (rack_of mid) → FailsMarked rack (fell_in keep answer) mid new → IsSound rack new → CommitsArray rack room goes extra answer old new
  commits_array room goes keep extra answer old mid new good h went fails sound = record {
    keep = keep;
    good = good;
    leaves = subst (λ (r : R). LeavesCommit rack room keep extra answer (rack_of old) r) (sym fails.rack_is) h.leaves;
    beside = subst (λ (r : R). goes (rack_of old) r) (sym fails.rack_is) went;
    sound = sound;
    table = fails.table ∙ h.table;
    members = subst (λ (m : ℕ → MemberState). AreFailed (fell_in keep answer) m (members_of new)) h.members fails.members;
    blocks = λ V stands. fails.blocks V (h.blocks V stands);
  }

-- ---- what the members do then

module _ (fell : ℕ) (old new : ℕ → MemberState) (h : AreFailed fell old new) where
  -- a member is as it was, or out
  pub still_or_out : (q : ℕ) → (new q ≡ old q) ⊎ (new q ≡ Out)
  still_or_out q = elim (cases_Bool (is_marked fell q)) [
    | inl fallen ↦ inr (h.out q fallen)
    | inr stood ↦ elim (h.others q stood) [ inl still ↦ inl still | inr left ↦ inr left.1 ]
  ]

  pub failed_back : NoneRecovers old new
  failed_back q good = elim (still_or_out q) [ inl still ↦ sym (ap is_good still) ∙ good | inr out ↦ absurd (false≢true (sym (ap is_good out) ∙ good)) ]

  pub failed_outs : (q : ℕ) → old q ≡ Out → new q ≡ Out
  failed_outs q was = elim (still_or_out q) [ inl still ↦ still ∙ was | inr out ↦ out ]

  pub failed_fills : (q : ℕ) → is_filling (new q) ≡ true → is_filling (old q) ≡ true
  failed_fills q fills = elim (still_or_out q) [ inl still ↦ sym (ap is_filling still) ∙ fills | inr out ↦ absurd (false≢true (sym (ap is_filling out) ∙ fills)) ]

module _ {R : Type 0} (rack : Ghosts R) (room : R → Option ℕ) (goes : R → R → Type 0) (extra : List ℕ) (answer : CommitAnswer) (a b : Store R) (h : CommitsArray rack room goes extra answer a b) where
  pub told_commit : StaysTold rack a b
  told_commit =
      let fell = fell_in h.keep answer in
      record {
        sound = h.sound;
        table = h.table;
        same = h.leaves.same;
        told_before = h.leaves.told_before;
        back = failed_back fell (members_of a) (members_of b) h.members;
        outs = failed_outs fell (members_of a) (members_of b) h.members;
        fills = failed_fills fell (members_of a) (members_of b) h.members;
        blocks = h.blocks;
      }

  -- members fall by their own faults, and one that was refilled with its partner
  pub commit_falls : MembersFall (rack.counts (rack_of a)).faults (rack.counts (rack_of b)).faults (members_of a) (members_of b)
  commit_falls q = elim (cases_Bool (is_marked (fell_in h.keep answer) q)) [
    | inl fallen ↦ inr (record { out = h.members.out q fallen; caused = inl (h.leaves.cause q fallen) })
    | inr stood ↦ elim (h.members.others q stood) [
      | inl still ↦ inl still
      | inr left ↦ inr (record { out = left.1; caused = inr (left.0, h.members.out (partner_of q) left.2) })
    ]
  ]

  -- a member that fell was good
  pub fallen_good : (q : ℕ) → is_marked (fell_in h.keep answer) q ≡ true → is_good (members_of a q) ≡ true
  fallen_good q fallen = elim (cases_Bool (is_marked h.keep q)) [
    | inl kept ↦ sym (h.good q) ∙ kept
    | inr other ↦ absurd (false≢true (sym (h.leaves.only q other) ∙ fallen))
  ]

  -- of one that wasn't good no call failed
  pub idle_commit : (q : ℕ) → is_good (members_of a q) ≡ false → (rack.counts (rack_of b)).faults q ≡ (rack.counts (rack_of a)).faults q
  idle_commit q bad = elim (cases_Bool (is_marked (fell_in h.keep answer) q)) [
    | inl fallen ↦ absurd (false≢true (sym bad ∙ fallen_good q fallen))
    | inr stood ↦ h.leaves.uncalled q stood
  ]
