-- Bytes that are appended part by part.
use Rattle.std.proofs.Common.{◌≡◌, ◌+◌, ◌<◌, ◌≤◌, ◌++◌, ℕ, zero, suc, Bool, false, List, [], ◌∷◌, length, get_or, take, map, sym, ◌∙◌, ap, arith}
use Rattle.std.specs.Prelude.{cond, flat_map}
use Rattle.std.specs.Global.{Vec}
use Rattle.std.specs.List.{range_with_len}
use Rattle.std.proofs.lemmas.List.{append_assoc, flat_map_more, get_or-map, take_all, take_more}
use Rattle.std.proofs.lemmas.List.Concat.{flat_map_single}
use Rattle.byteorder.specs.Endian.{little_bytes}
use Rattle.dg_model.specs.Saves.{SavedState, block_bytes, front_of_body, homes_bytes, phase_byte, rest_of_body}
use Rattle.dg_model.specs.declared.homes.Home.{Home}
use Rattle.dg_model.specs.declared.sites.Site.{Site}
use Rattle.dg_save.specs.Parts.{good_bytes, rows_in}

-- one more item of a list was appended
pub push_more : {X : Type 0} (f : X → List ℕ) (xs : List X) (old mid new : List ℕ) (i : ℕ) (d : X) → i < length xs
    → mid ≡ old ++ flat_map f (take i xs) → new ≡ mid ++ f (get_or xs i d) → new ≡ old ++ flat_map f (take (i + 1) xs)
push_more f xs old mid new i d low before now =
    now ∙ ap (λ (l : List ℕ). l ++ f (get_or xs i d)) before ∙ flat_map_more f old (take i xs) (get_or xs i d)
    ∙ ap (λ l. old ++ flat_map f l) (sym (take_more xs i d low))

-- all were
pub push_all : {X : Type 0} (f : X → List ℕ) (xs : List X) (old new : List ℕ) (i : ℕ) → length xs ≤ i
    → new ≡ old ++ flat_map f (take i xs) → new ≡ old ++ flat_map f xs
push_all f xs old new i all is = is ∙ ap (λ l. old ++ flat_map f l) (take_all i xs all)

pub range_more : (a n : ℕ) → range_with_len a (suc n) ≡ range_with_len a n ++ (a + n) ∷ []
range_more a zero = ap (λ (x : ℕ). x ∷ []) (omega arith)
range_more a (suc n) = ap (λ l. a ∷ l) (range_more (a + 1) n ∙ ap (λ (x : ℕ). range_with_len (a + 1) n ++ x ∷ []) (omega arith))

-- one more number of a range was
pub push_next : (f : ℕ → List ℕ) (old mid new : List ℕ) (i : ℕ)
    → mid ≡ old ++ flat_map f (range_with_len 0 i) → new ≡ mid ++ f i → new ≡ old ++ flat_map f (range_with_len 0 (i + 1))
push_next f old mid new i before now =
    let range : range_with_len 0 i ++ i ∷ [] ≡ range_with_len 0 (i + 1) =
    sym (range_more 0 i ∙ ap (λ (x : ℕ). range_with_len 0 i ++ x ∷ []) (let e : 0 + i ≡ i = omega arith in e))
    ∙ ap (λ (x : ℕ). range_with_len 0 x) (let e : suc i ≡ i + 1 = omega arith in e) in
    now ∙ ap (λ (l : List ℕ). l ++ f i) before ∙ flat_map_more f old (range_with_len 0 i) i ∙ ap (λ l. old ++ flat_map f l) range

pub row_at : (lists : List (Vec Site)) (b : ℕ) (d : Vec Site) → b < length lists → (get_or lists b d).items ≡ get_or (rows_in lists) b []
row_at lists b d low = sym (get_or-map (λ (v : Vec Site). v.items) lists b d [] low)

-- ---- what was appended, joined

pub rest_joined : (saved : SavedState) (copies : List Home) (recent : List ℕ) (old one two new : List ℕ) → copies ≡ saved.copies → recent ≡ saved.recent
    → one ≡ old ++ homes_bytes copies → two ≡ one ++ length recent ∷ [] → new ≡ two ++ flat_map (little_bytes 4) recent
    → new ≡ old ++ rest_of_body saved
unfolding rest_of_body
rest_joined saved copies recent old one two new ec er e1 e2 e3 =
    e3 ∙ rw (e2, e1, ec, er) (simp append_assoc)

join_four : (old a b c d : List ℕ) → (((old ++ a) ++ b) ++ c) ++ d ≡ old ++ (((a ++ b) ++ c) ++ d)
join_four old a b c d = simp append_assoc

pub front_joined : (saved : SavedState) (phase : ℕ) (good pending : List Bool) (rows : List (List Site)) (homes : List Home) (old one two three new : List ℕ)
    → phase ≡ phase_byte saved.phase → good ≡ saved.good → pending ≡ saved.pending → rows ≡ saved.table.rows → homes ≡ saved.homes
    → length pending ≡ saved.table.shape.n
    → one ≡ old ++ phase ∷ 0 ∷ 0 ∷ 0 ∷ [] → two ≡ one ++ flat_map good_bytes good
    → three ≡ two ++ flat_map (λ b. block_bytes (get_or rows b []) (get_or pending b false)) (range_with_len 0 (length pending))
    → new ≡ three ++ homes_bytes homes
    → new ≡ old ++ front_of_body saved
unfolding front_of_body
front_joined saved phase good pending rows homes old one two three new ep eg em er eh en e1 e2 e3 e4 =
    e4 ∙ rw (e3, e2, e1, en, ep, eg, em, er, eh, flat_map_single {A = ℕ} (λ (g : Bool). cond g 0 1) saved.good)
    (join_four old (phase_byte saved.phase ∷ 0 ∷ 0 ∷ 0 ∷ []) (map (λ (g : Bool). cond g 0 1) saved.good)
    (flat_map (λ b. block_bytes (get_or saved.table.rows b []) (get_or saved.pending b false)) (range_with_len 0 saved.table.shape.n)) (homes_bytes saved.homes))
