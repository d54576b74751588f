-- What a save leaves of the bytes of each member.
use Rattle.std.proofs.Common.{◌≡◌, ◌≢◌, ◌⊎◌, ◌∙◌, ◌≤◌, ◌+◌, ◌*◌, ℕ, suc, Bool, true, false, not, List, length, inl, inr, refl, sym, ap, subst, take, arith}
use Rattle.std.specs.Prelude.{IfSome, None, Option, Some, if◌then◌else◌}
use Rattle.std.proofs.lemmas.Bool.{both_ways, cases_Bool}
use Rattle.dg_io.specs.RackCalls.{RackCall}
use Rattle.dg_io.specs.Told.{Extended, IsSame, KeepsFront, Patched, Told, Torn}
use Rattle.dg_io.specs.declared.outside.Rack.{Ghosts}
use Rattle.dg_label.specs.Labels.{is_long, is_sealed, unsealed}
use Rattle.dg_label.specs.Pages.{LeavesFallen, OpensMember, PageFails, numbered, page_of}
use Rattle.dg_label.specs.Passes.{HaveRoom, IsUncalled, Passes, PassesBy}
use Rattle.dg_label.specs.Saves.{LeavesMember, LeavesMembers, save_calls, saved_numbers, short_members}
use Rattle.dg_label.specs.Seals.{KeepsArrayBy, OpensSeal}
use Rattle.dg_label.specs.declared.labels.KeptLabel.{KeptLabel}
use Rattle.dg_label.proofs.ByteLaws.{extended_front, front_longer, front_patched, same_front}
use Rattle.dg_label.proofs.FallenLaws.{same_more}
use Rattle.dg_label.proofs.LabelLaws.{good_stands, good_within, have_bodies}
use Rattle.dg_label.proofs.LeftLaws.{Opened, Ready, left_early, left_saved, left_torn, left_unopened, opened_by, opened_front, opened_none}
use Rattle.dg_label.proofs.PassLaws.{bad_stays, good_fills, told_same, told_then}
use Rattle.dg_model.specs.Members.{IsStruck, is_good}
use Rattle.dg_model.specs.Saves.{HasBody, body_place, label_bytes, member_length}
use Rattle.dg_model.specs.declared.shapes.Shape.{Shape}
use Rattle.dg_pair.specs.declared.boundaries.ExtendAnswer.{ExtendAnswer}
use Rattle.dg_pair.specs.declared.boundaries.ExtendAnswer.TheVariants as extended
use Rattle.dg_store.specs.Leaves.{BytesChange, CallsAtMost, IsCallOrExtendBelow, OnlyBytesOf, OnlyFaultsOf}
use Rattle.dg_store.specs.Stores.{IsSound, members_of, rack_of, shape_of}
use Rattle.dg_store.specs.declared.store.Store.{Store}

-- ---- bytes that may be told

told_map : (P Q : List ℕ → List ℕ → Type 0) (a b : Option (List ℕ)) → ((x y : List ℕ) → P x y → Q x y) → Told P a b → Told Q a b
told_map P Q a None step changed = tt
told_map P Q None (Some y) step changed = absurd changed
told_map P Q (Some x) (Some y) step changed = step x y changed

-- where something is known of the bytes before
told_given : (G : List ℕ → Type 0) (P Q : List ℕ → List ℕ → Type 0) (a b : Option (List ℕ)) → ((x y : List ℕ) → G x → P x y → Q x y)
    → IfSome a G → Told P a b → Told Q a b
told_given G P Q a None step given changed = tt
told_given G P Q None (Some y) step given changed = absurd changed
told_given G P Q (Some x) (Some y) step given changed = step x y given changed

told_both : (P Q S : List ℕ → List ℕ → Type 0) (a b c : Option (List ℕ)) → ((x y z : List ℕ) → P x y → Q y z → S x z) → Told P a b → Told Q b c → Told S a c
told_both P Q S a b None step first second = tt
told_both P Q S a None (Some z) step first second = absurd second
told_both P Q S None (Some y) (Some z) step first second = absurd first
told_both P Q S (Some x) (Some y) (Some z) step first second = step x y z first second

-- a label is sealed, or none is
sealed_or : (label : Option KeptLabel) → ((kept : KeptLabel) × (label ≡ Some kept) × (kept.sealed ≡ true)) ⊎ (is_sealed label ≡ false)
sealed_or None = inr refl
sealed_or (Some kept) = elim (cases_Bool kept.sealed) [ inl is ↦ inl (kept, refl, is) | inr none ↦ inr none ]

-- of one member more, it or none
pub short_more : (label : Option KeptLabel) (n : ℕ) → short_members label (n + 1) ≡ short_members label n + (if not (is_long label n) then 1 else 0)
short_more label n = let next : n + 1 ≡ suc n = omega arith in ap (short_members label) next

-- as many members are to be made longer once the seal is opened
short_opened : (label : Option KeptLabel) (n : ℕ) → short_members (unsealed label) n ≡ short_members label n
short_opened None n = refl
short_opened (Some kept) n = refl

module _ {R : Type 0} (rack : Ghosts R) where
  -- ---- members that aren't called

  pub uncalled_none : (q : ℕ) (a : Store R) → IsUncalled rack q a a
  uncalled_none q a = record { state = refl; faults = refl; bytes = told_same (rack.bytes (rack_of a) q) }

  pub uncalled_both : (q : ℕ) (a b c : Store R) → IsUncalled rack q a b → IsUncalled rack q b c → IsUncalled rack q a c
  uncalled_both q a b c first next = record {
    state = next.state ∙ first.state;
    faults = next.faults ∙ first.faults;
    bytes = told_then IsSame _ _ _ first.bytes next.bytes;
  }

  -- a member that is long isn't called in its turn, nor in that of another one
  pub uncalled_more : (label : Option KeptLabel) (n : ℕ) (a b c : Store R)
      → ((q : ℕ) → is_good (members_of a q) ≡ true → is_long label q ≡ true → IsUncalled rack q a b)
      → ((q : ℕ) → is_good (members_of b q) ≡ true → (q ≡ n → is_long label n ≡ true) → IsUncalled rack q b c)
      → (q : ℕ) → is_good (members_of a q) ≡ true → is_long label q ≡ true → IsUncalled rack q a c
  uncalled_more label n a b c before here q good long =
      let first = before q good long in
      uncalled_both q a b c first
      (here q (ap is_good first.state ∙ good) (λ e. subst (λ (k : ℕ). is_long label k ≡ true) e long))

  -- a call on one member is none on another one that is good
  pub uncalled_by_extend : (n : ℕ) (a b : Store R) (answer : ExtendAnswer) → OnlyBytesOf rack a b n → OnlyFaultsOf rack a b n
      → (answer ≢ extended.Fell → (p : ℕ) → members_of b p ≡ members_of a p)
      → (answer ≡ extended.Fell → IsStruck n (members_of a) (members_of b))
      → (q : ℕ) → q ≢ n → is_good (members_of a q) ≡ true → IsUncalled rack q a b
  uncalled_by_extend n a b answer bytes faults kept fell q other good = record {
    state = same_state answer kept fell;
    faults = faults q other;
    bytes = bytes q other;
  }
    where
      same_state : (x : ExtendAnswer) → (x ≢ extended.Fell → (p : ℕ) → members_of b p ≡ members_of a p)
          → (x ≡ extended.Fell → IsStruck n (members_of a) (members_of b)) → members_of b q ≡ members_of a q
      same_state extended.NotGood still struck = still (λ e. cc e) q
      same_state extended.Extended still struck = still (λ e. cc e) q
      same_state extended.Fell still struck = elim ((struck refl).others q other) [
        | inl same ↦ same
        | inr left ↦ absurd (good_fills (members_of a q) good left.0)
      ]

  -- ---- members that are made longer

  -- where members are made longer, all that stood on each stands there still
  pub extended_fronts : {may : ℕ → RackCall → Type 0} (a b : Store R) (size : ℕ) → IsSound rack a → PassesBy rack may (2 * (shape_of a).b) (λ (q : ℕ). Extended size) a b
      → LeavesFallen rack (λ (q : ℕ). KeepsFront) a b → (q : ℕ) → BytesChange rack a b q KeepsFront
  extended_fronts a b size sound passes fallen q = elim (cases_Bool (is_good (members_of a q))) [
    | inl good ↦ elim (cases_Bool (is_good (members_of b q))) [
      | inl still ↦
          let within = good_within rack a q sound good in
          told_map (Extended size) KeepsFront (rack.bytes (rack_of a) q) (rack.bytes (rack_of b) q) (λ x y is. extended_front size x y is)
          (passes.done q (omega (arith, within)) still)
      | inr gone ↦ fallen.fell q good gone
    ]
    | inr bad ↦ told_map IsSame KeepsFront (rack.bytes (rack_of a) q) (rack.bytes (rack_of b) q) (λ x y same. same_front x y same) (fallen.bad q bad)
  ]

  -- the front of a member, up to the end of its slots, is as it was
  abbrev SameFront : Shape → List ℕ → List ℕ → Type 0
  SameFront shape x y = take (body_place shape) y ≡ take (body_place shape) x

  -- ---- the steps

  -- where members are made longer
  longer_front : (shape : Shape) (a b : Store R) (q : ℕ) → IsSound rack a → shape_of a ≡ shape → is_good (members_of a q) ≡ true
      → BytesChange rack a b q KeepsFront → BytesChange rack a b q (SameFront shape)
  longer_front shape a b q sound is good keeps =
      told_given (λ x. member_length 1 shape ≤ length x) KeepsFront (SameFront shape) (rack.bytes (rack_of a) q) (rack.bytes (rack_of b) q)
      (λ x y long kept. front_longer (body_place shape) x y (omega (arith, long)) kept)
      (subst (λ (sh : Shape). IfSome (rack.bytes (rack_of a) q) (λ x. member_length 1 sh ≤ length x)) is (sound.long q (good_stands rack a q good)))
      keeps

  -- where bodies are written
  bodies_front : (a b : Store R) (body : List ℕ) (q : ℕ) → IsSound rack a → HaveRoom rack a (length body)
      → Passes rack (2 * (shape_of a).b) (λ (q : ℕ). Patched (body_place (shape_of a)) body) a b
      → LeavesFallen rack (λ (q : ℕ). Torn (body_place (shape_of a)) (length body)) a b → BytesChange rack a b q (SameFront (shape_of a))
  bodies_front a b body q sound room passes fallen = elim (cases_Bool (is_good (members_of a q))) [
    | inl good ↦ elim (cases_Bool (is_good (members_of b q))) [
      | inl still ↦
          let within = good_within rack a q sound good in
          told_given (λ x. body_place (shape_of a) + length body ≤ length x) (Patched (body_place (shape_of a)) body) (SameFront (shape_of a))
          (rack.bytes (rack_of a) q) (rack.bytes (rack_of b) q) (λ x y fits put. front_patched (body_place (shape_of a)) body x y (omega (arith, fits)) put)
          (room q good) (passes.done q (omega (arith, within)) still)
      | inr gone ↦
          told_map (Torn (body_place (shape_of a)) (length body)) (SameFront (shape_of a)) (rack.bytes (rack_of a) q) (rack.bytes (rack_of b) q)
          (λ x y torn. torn.front) (fallen.fell q good gone)
    ]
    | inr bad ↦
        told_map IsSame (SameFront (shape_of a)) (rack.bytes (rack_of a) q) (rack.bytes (rack_of b) q) (λ x y same. ap (take (body_place (shape_of a))) same)
        (fallen.bad q bad)
  ]

  -- where the seal is opened, each member that is good still has the opened page
  opened_good : (a b : Store R) (before after : Option KeptLabel) (q : ℕ) → OpensSeal rack a b before after → is_good (members_of a q) ≡ true
      → is_good (members_of b q) ≡ true → BytesChange rack a b q (Opened (shape_of a) before q)
  opened_good a b before after q opens was good = elim (sealed_or before) [
    | inl (kept, is, sealed) ↦
        told_map (OpensMember (rack.steady (rack_of a)) (page_of (shape_of a) (record kept { sealed = false }) q) (is_good (members_of b q)))
        (Opened (shape_of a) before q) (rack.bytes (rack_of a) q) (rack.bytes (rack_of b) q)
        (λ x y member. opened_by (shape_of a) before q kept x y is sealed (member.done good)) ((opens.members kept is sealed).good q was)
    | inr none ↦
        told_map IsSame (Opened (shape_of a) before q) (rack.bytes (rack_of a) q) (rack.bytes (rack_of b) q)
        (λ x y same. opened_none (shape_of a) before q x y none same)
        (subst (λ (s : Store R). BytesChange rack a s q IsSame) (sym (opens.quiet none)) (told_same (rack.bytes (rack_of a) q)))
  ]

  -- one that fell there is left as its failed opening leaves it
  opened_fell : (a b e : Store R) (before after : Option KeptLabel) (body : List ℕ) (q : ℕ) → OpensSeal rack a b before after → is_good (members_of a q) ≡ true
      → is_good (members_of b q) ≡ false → is_good (members_of e q) ≡ false
      → BytesChange rack a b q (LeavesMember (rack.steady (rack_of a)) (shape_of a) before body q (is_good (members_of e q)))
  opened_fell a b e before after body q opens was bad out = elim (sealed_or before) [
    | inl (kept, is, sealed) ↦
        told_map (OpensMember (rack.steady (rack_of a)) (page_of (shape_of a) (record kept { sealed = false }) q) (is_good (members_of b q)))
        (LeavesMember (rack.steady (rack_of a)) (shape_of a) before body q (is_good (members_of e q))) (rack.bytes (rack_of a) q) (rack.bytes (rack_of b) q)
        (λ x y member. left_unopened (shape_of a) before q (rack.steady (rack_of a)) body (is_good (members_of e q)) kept x y is sealed out (member.failed bad))
        ((opens.members kept is sealed).good q was)
    | inr none ↦ absurd (both_ways (is_good (members_of a q)) (subst (λ (s : Store R). is_good (members_of s q) ≡ false) (opens.quiet none) bad) was)
  ]

  pub opened_bad : (a b : Store R) (before after : Option KeptLabel) (q : ℕ) → OpensSeal rack a b before after → is_good (members_of a q) ≡ false
      → BytesChange rack a b q IsSame
  opened_bad a b before after q opens bad = elim (sealed_or before) [
    | inl (kept, is, sealed) ↦ (opens.members kept is sealed).bad q bad
    | inr none ↦ subst (λ (s : Store R). BytesChange rack a s q IsSame) (sym (opens.quiet none)) (told_same (rack.bytes (rack_of a) q))
  ]

  -- an opening makes calls only where there is a seal
  opened_most : (a b : Store R) (before after : Option KeptLabel) → OpensSeal rack a b before after
      → CallsAtMost rack a b (if is_sealed before then 2 * (shape_of a).b else 0)
  opened_most a b before after opens = elim (cases_Bool (is_sealed before)) [
    | inl sealed ↦ subst (λ (s : Bool). CallsAtMost rack a b (if s then 2 * (shape_of a).b else 0)) (sym sealed) opens.most
    | inr none ↦
        let still : CallsAtMost rack a a (if is_sealed before then 2 * (shape_of a).b else 0) = omega arith in
        subst (λ (s : Store R). CallsAtMost rack a s (if is_sealed before then 2 * (shape_of a).b else 0)) (sym (opens.quiet none)) still
  ]

  -- ---- the whole

  module _ (a b c d e : Store R) (before after : Option KeptLabel) (body : List ℕ) (sound : IsSound rack a) (opens : OpensSeal rack a b before after)
      (keeps : KeepsArrayBy rack IsCallOrExtendBelow b c) (fronts : (q : ℕ) → BytesChange rack b c q KeepsFront)
      (untouched : (q : ℕ) → is_good (members_of b q) ≡ false → BytesChange rack b c q IsSame) (room : HaveRoom rack c (length body))
      (bodies : Passes rack (2 * (shape_of c).b) (λ (q : ℕ). Patched (body_place (shape_of c)) body) c d)
      (bodies_fallen : LeavesFallen rack (λ (q : ℕ). Torn (body_place (shape_of c)) (length body)) c d)
      (labels : Passes rack (2 * (shape_of d).b) (λ (q : ℕ). Patched 0 (label_bytes (numbered (shape_of d) (saved_numbers before body) q))) d e)
      (labels_fallen : LeavesFallen rack (λ (q : ℕ). PageFails (rack.steady (rack_of d)) (page_of (shape_of d) (saved_numbers before body) q)) d e) where
    shape_c : shape_of c ≡ shape_of a
    shape_c = keeps.stays.shape ∙ opens.array.stays.shape

    shape_d : shape_of d ≡ shape_of a
    shape_d = bodies.array.stays.shape ∙ shape_c

    steady_d : rack.steady (rack_of a) → rack.steady (rack_of d)
    steady_d on = bodies.array.stays.stays.steady_on.0 (keeps.stays.stays.steady_on.0 (opens.array.stays.stays.steady_on.0 on))

    -- members that aren't good any more stay as they are
    rest_c : (q : ℕ) → is_good (members_of c q) ≡ false → BytesChange rack c e q IsSame
    rest_c = same_more rack c d e bodies.array bodies_fallen.bad labels_fallen.bad

    rest_b : (q : ℕ) → is_good (members_of b q) ≡ false → BytesChange rack b e q IsSame
    rest_b = same_more rack b c e keeps untouched rest_c

    save_untouched : (q : ℕ) → is_good (members_of a q) ≡ false → BytesChange rack a e q IsSame
    save_untouched = same_more rack a b e opens.array (λ q bad. opened_bad a b before after q opens bad) rest_b

    bad_e : (q : ℕ) → is_good (members_of d q) ≡ false → is_good (members_of e q) ≡ false
    bad_e q = bad_stays rack d e q labels.array

    bad_d : (q : ℕ) → is_good (members_of b q) ≡ false → is_good (members_of d q) ≡ false
    bad_d q bad = bad_stays rack c d q bodies.array (bad_stays rack b c q keeps bad)

    abbrev Left : ℕ → List ℕ → List ℕ → Type 0
    Left q = LeavesMember (rack.steady (rack_of a)) (shape_of a) before body q (is_good (members_of e q))

    -- before its label is written its seal is opened, and its slots are as they were
    ready : (q : ℕ) → is_good (members_of a q) ≡ true → is_good (members_of b q) ≡ true → BytesChange rack a d q (Ready (shape_of a) before q)
    ready q was good =
        told_both (Opened (shape_of a) before q) (SameFront (shape_of a)) (Ready (shape_of a) before q) _ _ _
        (λ x y z opened same. opened_front (shape_of a) before q x y z opened same)
        (opened_good a b before after q opens was good)
        (told_both (SameFront (shape_of a)) (SameFront (shape_of a)) (SameFront (shape_of a)) _ _ _ (λ x y z first next. next ∙ first)
        (longer_front (shape_of a) b c q opens.array.sound opens.array.stays.shape good (fronts q))
        (subst (λ (sh : Shape). BytesChange rack c d q (SameFront sh)) shape_c (bodies_front c d body q keeps.sound room bodies bodies_fallen)))

    -- it has the body where it is good still
    has_body : (q : ℕ) → is_good (members_of d q) ≡ true → IfSome (rack.bytes (rack_of d) q) (λ all. HasBody all (shape_of a) body)
    has_body q good =
        subst (λ (sh : Shape). IfSome (rack.bytes (rack_of d) q) (λ all. HasBody all sh body)) shape_d
        (have_bodies rack c d keeps.sound body room bodies q good)

    abbrev label : ℕ → List ℕ
    label q = page_of (shape_of a) (saved_numbers before body) q

    -- the write of its label was done, or failed
    abbrev Wrote : ℕ → List ℕ → List ℕ → Type 0
    Wrote q x y = HasBody x (shape_of a) body × Patched 0 (label q) x y

    abbrev Tried : ℕ → List ℕ → List ℕ → Type 0
    Tried q x y = HasBody x (shape_of a) body × PageFails (rack.steady (rack_of a)) (label q) x y

    wrote : (q : ℕ) → is_good (members_of d q) ≡ true → is_good (members_of e q) ≡ true → BytesChange rack d e q (Wrote q)
    wrote q good still =
        let within = good_within rack d q bodies.array.sound good in
        told_given (λ x. HasBody x (shape_of a) body) (Patched 0 (label q)) (Wrote q) (rack.bytes (rack_of d) q) (rack.bytes (rack_of e) q)
        (λ x y had put. (had, put)) (has_body q good)
        (subst (λ (sh : Shape). BytesChange rack d e q (Patched 0 (page_of sh (saved_numbers before body) q))) shape_d (labels.done q (omega (arith, within)) still))

    tried : (q : ℕ) → is_good (members_of d q) ≡ true → is_good (members_of e q) ≡ false → BytesChange rack d e q (Tried q)
    tried q good gone =
        told_given (λ x. HasBody x (shape_of a) body) (PageFails (rack.steady (rack_of d)) (label q)) (Tried q) (rack.bytes (rack_of d) q) (rack.bytes (rack_of e) q)
        (λ x y had fails. (had, record { torn = fails.torn; whole = λ on. fails.whole (steady_d on) })) (has_body q good)
        (subst (λ (sh : Shape). BytesChange rack d e q (PageFails (rack.steady (rack_of d)) (page_of sh (saved_numbers before body) q))) shape_d
        (labels_fallen.fell q good gone))

    left_behind : (q : ℕ) → is_good (members_of a q) ≡ true → is_good (members_of b q) ≡ true → BytesChange rack a e q (Left q)
    left_behind q was good = elim (cases_Bool (is_good (members_of d q))) [
      | inr gone ↦
          told_both (Ready (shape_of a) before q) IsSame (Left q) _ _ _
          (λ x y z is same. subst (λ (w : List ℕ). Left q x w) (sym same)
          (left_early (shape_of a) before q (rack.steady (rack_of a)) body (is_good (members_of e q)) x y (bad_e q gone) is))
          (ready q was good) (labels_fallen.bad q gone)
      | inl stood ↦ elim (cases_Bool (is_good (members_of e q))) [
        | inl still ↦
            told_both (Ready (shape_of a) before q) (Wrote q) (Left q) _ _ _
            (λ x y z is put. left_saved (shape_of a) before q (rack.steady (rack_of a)) body (is_good (members_of e q)) x y z is put.0 put.1)
            (ready q was good) (wrote q stood still)
        | inr gone ↦
            told_both (Ready (shape_of a) before q) (Tried q) (Left q) _ _ _
            (λ x y z is put. left_torn (shape_of a) before q (rack.steady (rack_of a)) body (is_good (members_of e q)) x y z is put.0 gone put.1)
            (ready q was good) (tried q stood gone)
      ]
    ]

    -- it makes so many calls
    save_most : after ≡ unsealed before → CallsAtMost rack b c (short_members after (2 * (shape_of b).b))
        → CallsAtMost rack a e (save_calls (shape_of a).b before)
    save_most is lengthened =
        let n : ℕ = 2 * (shape_of a).b in
        let short : short_members after n ≡ short_members before n = ap (λ (l : Option KeptLabel). short_members l n) is ∙ short_opened before n in
        let first = opened_most a b before after opens in
        let at_b = subst (λ (sh : Shape). CallsAtMost rack b c (short_members after (2 * sh.b))) opens.array.stays.shape lengthened in
        let next = subst (λ (m : ℕ). CallsAtMost rack b c m) short at_b in
        let third = subst (λ (sh : Shape). CallsAtMost rack c d (2 * sh.b)) shape_c bodies.most in
        let fourth = subst (λ (sh : Shape). CallsAtMost rack d e (2 * sh.b)) shape_d labels.most in
        omega (arith, first, next, third, fourth)

    save_members : LeavesMembers rack body before a e
    save_members q was = elim (cases_Bool (is_good (members_of b q))) [
      | inl good ↦ left_behind q was good
      | inr bad ↦
          told_then (Left q) _ _ _ (opened_fell a b e before after body q opens was bad (bad_e q (bad_d q bad))) (rest_b q bad)
    ]

    -- all three
    pub save_leaves : after ≡ unsealed before → CallsAtMost rack b c (short_members after (2 * (shape_of b).b))
        → LeavesMembers rack body before a e × ((q : ℕ) → is_good (members_of a q) ≡ false → BytesChange rack a e q IsSame) × CallsAtMost rack a e (save_calls (shape_of a).b before)
    save_leaves is lengthened = (save_members, save_untouched, save_most is lengthened)
