-- The slots of one member, and the room that they need.
use Rattle.std.proofs.Common.{◌≡◌, ◌≢◌, ◌⊎◌, inl, inr, ℕ, ◌+◌, ◌≤◌, ◌<◌, List, length, take, drop, ap, sym, ◌∙◌, subst, arith}
use Rattle.std.specs.Prelude.{Option, Some, None, IfSome, Result, Ok, Err, OnOk, OnErr}
use Rattle.std.proofs.lemmas.Bool.{cases_lt, cases_eq}
use Rattle.std.proofs.lemmas.Grind.{common_steps}
use Rattle.dg_model.specs.Members.{place_of, HasRoom}
use Rattle.dg_io.specs.Told.{Told, IsSame, IsZeros, Torn, Patched, OthersSame}
use Rattle.dg_pair.proofs.RangeLemmas.{torn_before, torn_behind, patch_torn}
use Rattle.dg_pair.specs.Members.{KeepsSlots}

IfSome-map : {X : Type 0} (o : Option X) (P Q : X → Type 0) → ((x : X) → P x → Q x) → IfSome o P → IfSome o Q
IfSome-map None P Q h p = tt
IfSome-map (Some x) P Q h p = h x p

-- a slot ends no further than all of them
pub slot_end : (l slots slot : ℕ) → slot < slots → place_of l slot + l ≤ place_of l slots
slot_end l slots slot h = grind arith

-- there is room for a slot where there is room for all
pub room_slot : (l slots slot n : ℕ) (told : Option (List ℕ)) → slot < slots → n ≡ l → HasRoom l slots told → IfSome told (λ all. place_of l slot + n ≤ length all)
room_slot l slots slot n told h is room = IfSome-map told _ (λ all. place_of l slot + n ≤ length all) (λ all fits. let e = slot_end l slots slot h in omega arith) room

-- another slot ends before this one begins, or begins behind its end
apart : (l slot x : ℕ) → x ≢ slot → (place_of l x + l ≤ place_of l slot) ⊎ (place_of l slot + l ≤ place_of l x)
apart l slot x h = elim (cases_lt x slot) [
  | inl below ↦ inl (slot_end l slot x below)
  | inr not_below ↦ let above : slot < x = omega arith in inr (slot_end l x slot above)
]

-- a write of one slot, also one that failed, leaves the others
pub torn_slots : (l slot n : ℕ) (old new : Option (List ℕ)) → n ≡ l → Told (Torn (place_of l slot) n) old new → KeepsSlots l slot old new
torn_slots l slot n old None is told x v other had = tt
torn_slots l slot n None (Some b) is told x v other had = absurd told
torn_slots l slot n (Some a) (Some b) is told x v other had = elim (apart l slot x other) [
  | inl before ↦ torn_before (place_of l slot) n a b told (place_of l x) (place_of l x + l) (omega arith) before ∙ had
  | inr behind ↦ torn_behind (place_of l slot) n a b told (place_of l x) (place_of l x + l) (omega arith) ∙ had
]

-- a write that was done is one that changed its range alone
pub patched_torn : (place : ℕ) (piece : List ℕ) (old new : Option (List ℕ)) → IfSome old (λ all. place + length piece ≤ length all) → Told (Patched place piece) old new → Told (Torn place (length piece)) old new
patched_torn place piece old None room told = tt
patched_torn place piece None (Some b) room told = absurd told
patched_torn place piece (Some a) (Some b) room told = subst (λ (l : List ℕ). Torn place (length piece) a l) (sym told) (patch_torn a place piece room)

-- what holds of told bytes holds of the same bytes
pub told_same : (P : List ℕ → Type 0) (old new : Option (List ℕ)) → Told IsSame old new → IfSome old P → IfSome new P
told_same P old None told had = tt
told_same P None (Some b) told had = absurd told
told_same P (Some a) (Some b) told had = subst P (sym told) had

-- a write of a slot, done or failed, leaves the others
pub put_slots : {T E : Type 0} (r : Result T E) (l slots slot : ℕ) (piece : List ℕ) (old new : Option (List ℕ)) → slot < slots → length piece ≡ l → HasRoom l slots old → OnOk r (Told (Patched (place_of l slot) piece) old new) → OnErr r (Told (Torn (place_of l slot) (length piece)) old new) → KeepsSlots l slot old new
put_slots (Ok _) l slots slot piece old new below is room ok err = torn_slots l slot (length piece) old new is (patched_torn (place_of l slot) piece old new (room_slot l slots slot (length piece) old below is room) ok)
put_slots (Err _) l slots slot piece old new below is room ok err = torn_slots l slot (length piece) old new is err

-- what is left as it was is no more than torn
pub torn_same : (place n : ℕ) (old new : Option (List ℕ)) → Told IsSame old new → Told (Torn place n) old new
torn_same place n old None same = tt
torn_same place n None (Some b) same = absurd same
torn_same place n (Some a) (Some b) same = record { size = ap length same; front = ap (take place) same; back = ap (drop (place + n)) same }

pub torn_then : (place n : ℕ) (first mid last : Option (List ℕ)) → Told (Torn place n) first mid → Told (Torn place n) mid last → Told (Torn place n) first last
torn_then place n first mid None one two = tt
torn_then place n (Some a) (Some b) (Some c) one two = record { size = two.size ∙ one.size; front = two.front ∙ one.front; back = two.back ∙ one.back }
torn_then place n None (Some b) (Some c) one two = absurd one
torn_then place n first None (Some c) one two = absurd two

torn_alone : (member place n : ℕ) (old new : ℕ → Option (List ℕ)) → Told (Torn place n) (old member) (new member) → OthersSame member old new → (q : ℕ) → Told (Torn place n) (old q) (new q)
torn_alone member place n old new torn others q = elim (cases_eq q member) [
  | inl e ↦ subst (λ (m : ℕ). Told (Torn place n) (old m) (new m)) (sym e) torn
  | inr other ↦ torn_same place n (old q) (new q) (others q other)
]

-- a write of a slot, done or failed, tears no more than its range, and no other member
pub put_torn : {T E : Type 0} (r : Result T E) (member place : ℕ) (piece : List ℕ) (old new : ℕ → Option (List ℕ)) → IfSome (old member) (λ all. place + length piece ≤ length all) → OnOk r (Told (Patched place piece) (old member) (new member)) → OnErr r (Told (Torn place (length piece)) (old member) (new member)) → OthersSame member old new → (q : ℕ) → Told (Torn place (length piece)) (old q) (new q)
put_torn (Ok _) member place piece old new room ok err others = torn_alone member place (length piece) old new (patched_torn place piece (old member) (new member) room ok) others
put_torn (Err _) member place piece old new room ok err others = torn_alone member place (length piece) old new err others

-- a member of so many zeros has room for its slots, also once others were called
pub zeros_room : (l slots size : ℕ) (old new : Option (List ℕ)) → place_of l slots ≤ size → Told (IsZeros size) old new → HasRoom l slots new
zeros_room l slots size old None enough zeros = tt
zeros_room l slots size None (Some b) enough zeros = absurd zeros
zeros_room l slots size (Some a) (Some b) enough zeros = let n : length b ≡ size = grind (arith, common_steps, ap length zeros) in omega (arith, n, enough)

pub zeros_room_at : (l slots size n m : ℕ) (old new : ℕ → Option (List ℕ)) → n ≡ m → place_of l slots ≤ size → Told (IsZeros size) (old m) (new m) → HasRoom l slots (new n)
zeros_room_at l slots size n m old new at enough zeros = subst (λ (k : ℕ). HasRoom l slots (new k)) (sym at) (zeros_room l slots size (old m) (new m) enough zeros)

pub zeros_room_then : (l slots size n m : ℕ) (old mid new : ℕ → Option (List ℕ)) → n ≡ m → place_of l slots ≤ size → Told (IsZeros size) (old m) (mid m) → Told IsSame (mid m) (new m) → HasRoom l slots (new n)
zeros_room_then l slots size n m old mid new at enough zeros same = subst (λ (k : ℕ). HasRoom l slots (new k)) (sym at)
    (told_same (λ all. place_of l slots ≤ length all) (mid m) (new m) same (zeros_room l slots size (old m) (mid m) enough zeros))
