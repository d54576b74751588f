-- Blocks of a kind that readers in a row fetched, or lost. For the crates that read a volume.
use Rattle.std.proofs.Common.{◌≡◌, ℕ, zero, suc, ◌+◌, ◌-◌, ◌<◌, ◌≤◌, List, [], ◌∷◌, ◌++◌, Bool, true, false, Option, Some, None, IfNone, All, Contains, refl, sym, subst, arith}
use Rattle.std.specs.List.{range_with_len}
use Rattle.std.proofs.lemmas.Bool.{false≢true}
use Rattle.std.proofs.lemmas.List.Elements.{All-append, All-cons, All-contains_itself, All-nil, All-weaker, Contains-append_left, Contains-append_right}
use Rattle.ufs_model.specs.Blocks.{Volume, Consulted, Reading, bind}
use Rattle.ufs_model.specs.Readings.{Grows, ReadsAs}
use Rattle.ufs_pointer.specs.Fetches.{Fetches, FetchesArea, FetchesOnly, IsConsulted, IsNeeded, LosesOne}

-- ---- what was fetched

-- no fetch at all
pub only_none : {S : Type 0} {fetched : S → List ℕ → S → Type 0} {stands : Volume → Type 0} {tells : Type 0} (kind : Volume → ℕ → Type 0) (s : S)
    → fetched s [] s → FetchesOnly fetched stands tells kind s s
only_none kind s none = record { blocks = []; were = none; only = λ is v holds. All-nil (kind v) }

-- Fetches, and then others. The kind of the others is one of the whole's, on the volumes that the view stood for at first.
pub only_both : {S : Type 0} {fetched : S → List ℕ → S → Type 0} {stands still : Volume → Type 0} {tells told : Type 0} {kind other : Volume → ℕ → Type 0} {old middle new : S}
    → ((s t u : S) (x y : List ℕ) → fetched s x t → fetched t y u → fetched s (x ++ y) u)
    → (told → tells) → (told → (v : Volume) → stands v → still v × ((b : ℕ) → other v b → kind v b))
    → FetchesOnly fetched stands tells kind old middle → FetchesOnly fetched still told other middle new → FetchesOnly fetched stands told kind old new
only_both {kind = kind} {other = other} {old = old} {middle = middle} {new = new} both tell keeps one two = record {
  blocks = one.blocks ++ two.blocks;
  were = both old middle new one.blocks two.blocks one.were two.were;
  only = λ is v holds.
      let on = keeps is v holds in
      All-append (kind v) one.blocks two.blocks (one.only (tell is) v holds) (All-weaker (other v) (kind v) (on.1) two.blocks (two.only is v (on.0)));
}

-- another kind, on other volumes
pub only_along : {S : Type 0} {fetched : S → List ℕ → S → Type 0} {stands still : Volume → Type 0} {tells : Type 0} {kind other : Volume → ℕ → Type 0} {old new : S}
    → (tells → (v : Volume) → stands v → still v × ((b : ℕ) → other v b → kind v b))
    → FetchesOnly fetched still tells other old new → FetchesOnly fetched stands tells kind old new
only_along {kind = kind} {other = other} keeps one = record {
  blocks = one.blocks;
  were = one.were;
  only = λ is v holds. let on = keeps is v holds in All-weaker (other v) (kind v) (on.1) one.blocks (one.only is v (on.0));
}

all_front : (P : ℕ → Type 0) (front rest : List ℕ) → All P (front ++ rest) → All P front
all_front P [] rest all = All-nil P
all_front P (b ∷ front) rest all =
    All-cons P b front (all 0 b (omega arith)) (all_front P front rest (λ k d lt. all (suc k) d (omega arith)))

consulted_all : {A : Type 0} (d : Consulted A) (r : Option A) (blocks : List ℕ) → IsConsulted d r blocks → All (Contains (d.needs)) blocks
consulted_all d None blocks is =
    all_front (Contains (d.needs)) blocks is.rest (subst (λ xs. All (Contains (d.needs)) xs) is.whole (All-contains_itself (d.needs)))
consulted_all d (Some a) blocks is = subst (λ xs. All (Contains (d.needs)) xs) (sym is) (All-contains_itself (d.needs))

-- what was fetched for a reading is of a kind, where each block that it needs is
pub only_of : {S A : Type 0} {fetched : S → List ℕ → S → Type 0} {stands : Volume → Type 0} {tells : Type 0} {d : Reading A} {r : Option A} {old new : S} (kind : Volume → ℕ → Type 0)
    → ((v : Volume) → stands v → (b : ℕ) → IsNeeded d v b → kind v b) → Fetches fetched stands tells d r old new → FetchesOnly fetched stands tells kind old new
only_of {d = d} {r = r} kind each fetches = record {
  blocks = fetches.blocks;
  were = fetches.were;
  only = λ is v holds. All-weaker (IsNeeded d v) (kind v) (each v holds) fetches.blocks (consulted_all (d v) r fetches.blocks (fetches.consulted is v holds));
}

all_from : (P : ℕ → Type 0) (a k : ℕ) → ((b : ℕ) → a ≤ b → b < a + k → P b) → All P (range_with_len a k)
all_from P a zero each = All-nil P
all_from P a (suc k) each =
    All-cons P a (range_with_len (a + 1) k) (each a (omega arith) (omega arith)) (all_from P (a + 1) k (λ b low high. each b (omega arith) (omega arith)))

-- the same of blocks from one on
pub only_area : {S : Type 0} {fetched : S → List ℕ → S → Type 0} {stands : Volume → Type 0} {tells : Type 0} {gone : ℕ → Bool} {a k : ℕ} {could : Bool} {old new : S} (kind : Volume → ℕ → Type 0)
    → ((v : Volume) → stands v → (b : ℕ) → a ≤ b → b < a + k → kind v b) → FetchesArea fetched gone a k could old new → FetchesOnly fetched stands tells kind old new
only_area {a = a} kind each area = record {
  blocks = range_with_len a area.number;
  were = area.were;
  only = λ is v holds. all_from (kind v) a area.number (λ b low high. each v holds b low (let most = area.most in omega arith));
}

-- and of one block
pub only_once : {S : Type 0} {fetched : S → List ℕ → S → Type 0} {stands : Volume → Type 0} {tells : Type 0} {block : ℕ} {old new : S} (kind : Volume → ℕ → Type 0)
    → ((v : Volume) → stands v → kind v block) → fetched old (block ∷ []) new → FetchesOnly fetched stands tells kind old new
only_once {block = block} kind is_kind once = record {
  blocks = block ∷ [];
  were = once;
  only = λ is v holds. All-cons (kind v) block [] (is_kind v holds) (All-nil (kind v));
}

-- ---- what is gone

-- A loss is one of the whole: on the volumes that the view stood for at first, of another kind, and seen later.
pub loses_along : {stands still : Volume → Type 0} {tells told : Type 0} {count here : ℕ} {kind other : Volume → ℕ → Type 0} {gone later : ℕ → Bool}
    → here ≡ count → Grows gone later → (told → tells) → (told → (v : Volume) → stands v → still v × ((b : ℕ) → other v b → kind v b))
    → LosesOne still tells here other gone → LosesOne stands told count kind later
loses_along same grows tell keeps one = record {
  block = one.block;
  within = subst (λ n. one.block < n) same one.within;
  lost = grows one.block one.lost;
  of_kind = λ is v holds. let on = keeps is v holds in on.1 one.block (one.of_kind (tell is) v (on.0));
}

-- the same where there is no answer
pub no_answer_along : {A : Type 0} {stands still : Volume → Type 0} {tells told : Type 0} {count here : ℕ} {kind other : Volume → ℕ → Type 0} {gone later : ℕ → Bool} (r : Option A)
    → here ≡ count → Grows gone later → (told → tells) → (told → (v : Volume) → stands v → still v × ((b : ℕ) → other v b → kind v b))
    → IfNone r (LosesOne still tells here other gone) → IfNone r (LosesOne stands told count kind later)
no_answer_along (Some a) same grows tell keeps one = tt
no_answer_along None same grows tell keeps one = loses_along same grows tell keeps one

-- of blocks from one on
pub loses_area : {S : Type 0} {fetched : S → List ℕ → S → Type 0} {stands : Volume → Type 0} {tells : Type 0} {gone : ℕ → Bool} {a k count : ℕ} {old new : S} (kind : Volume → ℕ → Type 0) (could : Bool)
    → a + k ≤ count → ((v : Volume) → stands v → (b : ℕ) → a ≤ b → b < a + k → kind v b) → FetchesArea fetched gone a k could old new → could ≡ false
    → LosesOne stands tells count kind gone
loses_area kind true inside each area missed = absurd (false≢true (sym missed))
loses_area {a = a} kind false inside each area missed =
    let cut = area.cut refl in
    let some = cut.0 in
    let most = area.most in
    record {
      block = a + (area.number - 1);
      within = omega arith;
      lost = cut.1;
      of_kind = λ is v holds. each v holds (a + (area.number - 1)) (omega arith) (omega arith);
    }

-- of one block
pub loses_once : {stands : Volume → Type 0} {tells : Type 0} {gone : ℕ → Bool} {block count : ℕ} (kind : Volume → ℕ → Type 0)
    → block < count → gone block ≡ true → ((v : Volume) → stands v → kind v block) → LosesOne stands tells count kind gone
loses_once {block = block} kind inside here is_kind = record { block = block; within = inside; lost = here; of_kind = λ is v holds. is_kind v holds }

-- ---- readings

needed_front : {A B : Type 0} (d : Reading A) (f : A → Reading B) (v : Volume) (b : ℕ) → IsNeeded d v b → IsNeeded (bind d f) v b
unfolding bind
needed_front d f v b h = Contains-append_left ((d v).needs) ((f ((d v).value) v).needs) b h

needed_then : {A B : Type 0} (d : Reading A) (f : A → Reading B) (a : A) (v : Volume) (b : ℕ) → a ≡ (d v).value → IsNeeded (f a) v b → IsNeeded (bind d f) v b
unfolding bind
needed_then d f a v b is h =
    Contains-append_right ((d v).needs) ((f ((d v).value) v).needs) b (subst (λ x. Contains ((f x v).needs) b) is h)

-- a block that is consulted for the first is consulted for the whole
pub loses_front : {A B : Type 0} {stands : Volume → Type 0} {tells : Type 0} {count : ℕ} {gone : ℕ → Bool} (d : Reading A) (f : A → Reading B)
    → LosesOne stands tells count (IsNeeded d) gone → LosesOne stands tells count (IsNeeded (bind d f)) gone
loses_front d f one = record {
  block = one.block;
  within = one.within;
  lost = one.lost;
  of_kind = λ is v holds. needed_front d f v one.block (one.of_kind is v holds);
}

-- and so is one that is consulted for what follows from its answer
pub loses_then : {A B : Type 0} {stands still : Volume → Type 0} {tells told : Type 0} {count here : ℕ} {before now gone : ℕ → Bool} {d : Reading A} (f : A → Reading B) {a : A}
    → here ≡ count → ((v : Volume) → stands v → still v) → (told → tells) → ReadsAs stands before tells now d (Some a)
    → LosesOne still told here (IsNeeded (f a)) gone → LosesOne stands told count (IsNeeded (bind d f)) gone
loses_then {d = d} f {a = a} same keeps tell read one = record {
  block = one.block;
  within = subst (λ n. one.block < n) same one.within;
  lost = one.lost;
  of_kind = λ is v holds. needed_then d f a v one.block ((read.rule (tell is) v holds).answer) (one.of_kind is v (keeps v holds));
}

-- the same where there is no answer
pub no_answer_then : {A B : Type 0} {stands still : Volume → Type 0} {tells told : Type 0} {count here : ℕ} {before now : ℕ → Bool} {d : Reading A} (f : A → Reading B) {a : A} (gone : ℕ → Bool) (r : Option B)
    → here ≡ count → ((v : Volume) → stands v → still v) → (told → tells) → ReadsAs stands before tells now d (Some a)
    → IfNone r (LosesOne still told here (IsNeeded (f a)) gone) → IfNone r (LosesOne stands told count (IsNeeded (bind d f)) gone)
no_answer_then f gone (Some b) same keeps tell read one = tt
no_answer_then f gone None same keeps tell read one = loses_then f same keeps tell read one
