-- From one core an event has one reply, and leads to one core.
use Rattle.std.proofs.Common.{◌≡◌, ◌<◌, ◌+◌, ◌*◌, ℕ, Bool, true, false, List, [], ◌∷◌, length, take, drop, refl, sym, ◌∙◌, ap, subst, arith}
use Rattle.std.specs.Prelude.{Result, Ok, Err}
use Rattle.std.specs.List.{concat}
use Rattle.std.proofs.lemmas.Bool.{false≢true}
use Rattle.std.proofs.lemmas.List.{append-nil, length-append, take_at, drop_at}
use Rattle.dg_model.specs.Blocks.{block_in}
use Rattle.dg_model.specs.Lists.{AreLines}
use Rattle.dg_model.specs.declared.shapes.Shape.{Shape}
use Rattle.dg_model.specs.declared.members.MemberState.{MemberState}
use Rattle.dg_model.specs.declared.events.Event.{Event}
use Rattle.dg_model.specs.declared.events.Event.TheVariants.{Write, Read, Fail, Cat, Ls}
use Rattle.dg_model.specs.declared.replies.Reply.{Reply}
use Rattle.dg_model.specs.declared.replies.Reply.TheVariants.{Done, Range, Degraded, Unavailable, Already, Data, Given, Listed as ListedReply, Refused}
use Rattle.dg_model.proofs.FirstSites.{sited_same}
use Rattle.dg_model.proofs.TrimLaws.{trimmed_is}
use Rattle.dg_uses.specs.Views.{Core, Struck, View, Wrote, file_in, listing_in}
use Rattle.dg_uses.proofs.Cores.{NoneFills, Sound, core_is, same_sound, struck_same, struck_sound, wrote_sound}

-- ---- lines

some_bytes : (l : ℕ) (x : List ℕ) (xs : List (List ℕ)) → 0 < l → AreLines l (x ∷ xs) → 0 < length (concat (x ∷ xs))
some_bytes l x [] some are = omega (arith, length-append x [], are.0)
some_bytes l x (y ∷ ys) some are = omega (arith, length-append x (concat (y ∷ ys)), are.0)

-- bytes are cut into lines in one way
pub lines_same : (l : ℕ) (xs ys : List (List ℕ)) → 0 < l → AreLines l xs → AreLines l ys → concat xs ≡ concat ys → xs ≡ ys
lines_same l [] [] some hx hy e = refl
lines_same l [] (y ∷ ys) some hx hy e = absurd (omega (arith, ap length e, some_bytes l y ys some hy))
lines_same l (x ∷ xs) [] some hx hy e = absurd (omega (arith, ap length e, some_bytes l x xs some hx))
lines_same l (x ∷ []) (y ∷ []) some hx hy e = ap (λ (z : List ℕ). z ∷ []) (sym (append-nil x) ∙ e ∙ append-nil y)
lines_same l (x ∷ []) (y ∷ z ∷ zs) some hx hy e =
    absurd (omega (arith, ap length e, length-append x [], length-append y (concat (z ∷ zs)), hx.1, hy.0, some_bytes l z zs some hy.1))
lines_same l (x ∷ w ∷ ws) (y ∷ []) some hx hy e =
    absurd (omega (arith, ap length e, length-append y [], length-append x (concat (w ∷ ws)), hy.1, hx.0, some_bytes l w ws some hx.1))
lines_same l (x ∷ w ∷ ws) (y ∷ z ∷ zs) some hx hy e =
    let first : x ≡ y = sym (take_at x (concat (w ∷ ws)) l hx.0) ∙ ap (λ (b : List ℕ). take l b) e ∙ take_at y (concat (z ∷ zs)) l hy.0 in
    let rest : concat (w ∷ ws) ≡ concat (z ∷ zs) = sym (drop_at x (concat (w ∷ ws)) l hx.0) ∙ ap (λ (b : List ℕ). drop l b) e ∙ drop_at y (concat (z ∷ zs)) l hy.0 in
    let more = lines_same l (w ∷ ws) (z ∷ zs) some hx.1 hy.1 rest in
    ap (λ (f : List ℕ). f ∷ w ∷ ws) first ∙ ap (λ (t : List (List ℕ)). y ∷ t) more

-- ---- results

-- 0 for a value, and 1 for a refusal
abbrev kind : {A E : Type 0} → Result A E → ℕ
kind (Ok a) = 0
kind (Err e) = 1

pub apart : {A E : Type 0} (a : A) (e : E) (r : Result A E) → Ok a ≡ r → Err e ≡ r → ⊥
apart a e r one other = absurd (omega (arith, ap kind (one ∙ sym other)))

pub ok_same : {A E : Type 0} (a b : A) (r : Result A E) → Ok a ≡ r → Ok b ≡ r → a ≡ b
ok_same {A} {E} a b r one other = inside (one ∙ sym other)
  where
    inside : ◌≡◌ {A = Result A E} (Ok a) (Ok b) → a ≡ b
    inside e = cc e

pub err_same : {A E : Type 0} (a b : E) (r : Result A E) → Err a ≡ r → Err b ≡ r → a ≡ b
err_same {A} {E} a b r one other = inside (one ∙ sym other)
  where
    inside : ◌≡◌ {A = Result A E} (Err a) (Err b) → a ≡ b
    inside e = cc e

-- it can't be both
pub both : (x : Bool) → x ≡ true → x ≡ false → ⊥
both x yes' no' = false≢true (sym no' ∙ yes')

-- ---- one event

-- the replies are the same, and so are the cores
abbrev pub AreSame : Reply → Reply → Core → Core → Type 0
AreSame r q x y = (r ≡ q) × (x ≡ y)

wrote_same : (c : Core) (b : ℕ) (bytes : List ℕ) (x y : Core) → Wrote c b bytes x → Wrote c b bytes y → x ≡ y
wrote_same c b bytes x y u v =
    core_is x y (sited_same c.table x.table y.table b u.sited v.sited) (u.blocks ∙ sym v.blocks) (u.members ∙ sym v.members)

write_same : (c : Core) (b : ℕ) (bytes : List ℕ) (r q : Reply) (x y : Core) → View c (Write b bytes) r x → View c (Write b bytes) q y → AreSame r q x y
write_same c b bytes Range Range x y u v = (refl, u.1 ∙ sym v.1)
write_same c b bytes Range Degraded x y u v = absurd (u.0 v.0)
write_same c b bytes Range Done x y u v = absurd (u.0 v.0)
write_same c b bytes Range q x y u v = absurd v
write_same c b bytes Degraded Range x y u v = absurd (v.0 u.0)
write_same c b bytes Degraded Degraded x y u v = (refl, u.2 ∙ sym v.2)
write_same c b bytes Degraded Done x y u v = absurd (both _ u.1 v.1)
write_same c b bytes Degraded q x y u v = absurd v
write_same c b bytes Done Range x y u v = absurd (v.0 u.0)
write_same c b bytes Done Degraded x y u v = absurd (both _ v.1 u.1)
write_same c b bytes Done Done x y u v = (refl, wrote_same c b bytes x y u.2 v.2)
write_same c b bytes Done q x y u v = absurd v
write_same c b bytes r q x y u v = absurd u

read_same : (c : Core) (b : ℕ) (r q : Reply) (x y : Core) → View c (Read b) r x → View c (Read b) q y → AreSame r q x y
read_same c b Range Range x y u v = (refl, u.1 ∙ sym v.1)
read_same c b Range Unavailable x y u v = absurd (u.0 v.0)
read_same c b Range (Data others) x y u v = absurd (u.0 v.0)
read_same c b Range q x y u v = absurd v
read_same c b Unavailable Range x y u v = absurd (v.0 u.0)
read_same c b Unavailable Unavailable x y u v = (refl, u.2 ∙ sym v.2)
read_same c b Unavailable (Data others) x y u v = absurd (both _ u.1 v.1)
read_same c b Unavailable q x y u v = absurd v
read_same c b (Data bytes) Range x y u v = absurd (v.0 u.0)
read_same c b (Data bytes) Unavailable x y u v = absurd (both _ v.1 u.1)
read_same c b (Data bytes) (Data others) x y u v = (
  ap Data (trimmed_is bytes (block_in c.blocks b) u.2 ∙ sym (trimmed_is others (block_in c.blocks b) v.2)),
  u.3 ∙ sym v.3,
)
read_same c b (Data bytes) q x y u v = absurd v
read_same c b r q x y u v = absurd u

-- no member is being refilled
abbrev IsWhole : Core → Type 0
IsWhole c = NoneFills c.members

struck_core : (c : Core) (k : ℕ) (x y : Core) → IsWhole c → Struck c k x → Struck c k y → x ≡ y
struck_core c k x y whole u v =
    let members : x.members ≡ y.members = λ i q. struck_same k c.members x.members y.members whole u.members v.members q i in
    u.rest ∙ ap (λ (m : ℕ → MemberState). record c { members = m }) members ∙ sym v.rest

fail_same : (c : Core) (s j : ℕ) (r q : Reply) (x y : Core) → IsWhole c → View c (Fail s j) r x → View c (Fail s j) q y → AreSame r q x y
fail_same c s j Range Range x y whole u v = (refl, u.1 ∙ sym v.1)
fail_same c s j Range Already x y whole u v = absurd (u.0 v.0)
fail_same c s j Range Done x y whole u v = absurd (u.0 v.0)
fail_same c s j Range q x y whole u v = absurd v
fail_same c s j Already Range x y whole u v = absurd (v.0 u.0)
fail_same c s j Already Already x y whole u v = (refl, u.2 ∙ sym v.2)
fail_same c s j Already Done x y whole u v = absurd (v.1 u.1)
fail_same c s j Already q x y whole u v = absurd v
fail_same c s j Done Range x y whole u v = absurd (v.0 u.0)
fail_same c s j Done Already x y whole u v = absurd (u.1 v.1)
fail_same c s j Done Done x y whole u v = (refl, struck_core c (2 * s + j) x y whole u.2 v.2)
fail_same c s j Done q x y whole u v = absurd v
fail_same c s j r q x y whole u v = absurd u

cat_same : (c : Core) (path : List ℕ) (r q : Reply) (x y : Core) → 0 < c.table.shape.l → View c (Cat path) r x → View c (Cat path) q y → AreSame r q x y
cat_same c path (Given lines) (Given others) x y some u v = (ap Given (lines_same c.table.shape.l lines others some u.1 v.1 (ok_same (concat lines) (concat others) (file_in c path).value u.2 v.2)), u.3 ∙ sym v.3)
cat_same c path (Given lines) (Refused other) x y some u v = absurd (apart (concat lines) other (file_in c path).value u.2 v.1)
cat_same c path (Given lines) Unavailable x y some u v = absurd (both _ v.0 u.0)
cat_same c path (Given lines) q x y some u v = absurd v
cat_same c path (Refused refusal) (Given others) x y some u v = absurd (apart (concat others) refusal (file_in c path).value v.2 u.1)
cat_same c path (Refused refusal) (Refused other) x y some u v = (ap Refused (err_same refusal other (file_in c path).value u.1 v.1), u.2 ∙ sym v.2)
cat_same c path (Refused refusal) Unavailable x y some u v = absurd (both _ v.0 u.0)
cat_same c path (Refused refusal) q x y some u v = absurd v
cat_same c path Unavailable (Given others) x y some u v = absurd (both _ u.0 v.0)
cat_same c path Unavailable (Refused other) x y some u v = absurd (both _ u.0 v.0)
cat_same c path Unavailable Unavailable x y some u v = (refl, u.1 ∙ sym v.1)
cat_same c path Unavailable q x y some u v = absurd v
cat_same c path r q x y some u v = absurd u

ls_same : (c : Core) (path : List ℕ) (r q : Reply) (x y : Core) → View c (Ls path) r x → View c (Ls path) q y → AreSame r q x y
ls_same c path (ListedReply entries) (ListedReply others) x y u v = (ap ListedReply (ok_same entries others (listing_in c path).value u.1 v.1), u.2 ∙ sym v.2)
ls_same c path (ListedReply entries) (Refused other) x y u v = absurd (apart entries other (listing_in c path).value u.1 v.1)
ls_same c path (ListedReply entries) Unavailable x y u v = absurd (both _ v.0 u.0)
ls_same c path (ListedReply entries) q x y u v = absurd v
ls_same c path (Refused refusal) (ListedReply others) x y u v = absurd (apart others refusal (listing_in c path).value v.1 u.1)
ls_same c path (Refused refusal) (Refused other) x y u v = (ap Refused (err_same refusal other (listing_in c path).value u.1 v.1), u.2 ∙ sym v.2)
ls_same c path (Refused refusal) Unavailable x y u v = absurd (both _ v.0 u.0)
ls_same c path (Refused refusal) q x y u v = absurd v
ls_same c path Unavailable (ListedReply others) x y u v = absurd (both _ u.0 v.0)
ls_same c path Unavailable (Refused other) x y u v = absurd (both _ u.0 v.0)
ls_same c path Unavailable Unavailable x y u v = (refl, u.1 ∙ sym v.1)
ls_same c path Unavailable q x y u v = absurd v
ls_same c path r q x y u v = absurd u

some_in : (shape : Shape) (c : Core) → Sound shape c → 0 < c.table.shape.l
some_in shape c sound = subst (λ (t : Shape). 0 < t.l) (sym sound.inside.numbers) sound.bytes

pub view_same : (shape : Shape) (c : Core) (event : Event) (r q : Reply) (x y : Core) → Sound shape c → View c event r x → View c event q y → AreSame r q x y
view_same shape c (Write b bytes) r q x y sound u v = write_same c b bytes r q x y u v
view_same shape c (Read b) r q x y sound u v = read_same c b r q x y u v
view_same shape c (Fail s j) r q x y sound u v = fail_same c s j r q x y sound.whole u v
view_same shape c (Cat path) r q x y sound u v = cat_same c path r q x y (some_in shape c sound) u v
view_same shape c (Ls path) r q x y sound u v = ls_same c path r q x y u v
view_same shape c event r q x y sound u v = absurd u

-- ---- sound cores stay sound

pub view_sound : (shape : Shape) (c : Core) (event : Event) (r : Reply) (x : Core) → Sound shape c → View c event r x → Sound shape x
view_sound shape c (Write b bytes) Range x sound u = same_sound shape c x sound u.1
view_sound shape c (Write b bytes) Degraded x sound u = same_sound shape c x sound u.2
view_sound shape c (Write b bytes) Done x sound u = wrote_sound shape c b bytes x u.0 sound u.2
view_sound shape c (Read b) Range x sound u = same_sound shape c x sound u.1
view_sound shape c (Read b) Unavailable x sound u = same_sound shape c x sound u.2
view_sound shape c (Read b) (Data bytes) x sound u = same_sound shape c x sound u.3
view_sound shape c (Fail s j) Range x sound u = same_sound shape c x sound u.1
view_sound shape c (Fail s j) Already x sound u = same_sound shape c x sound u.2
view_sound shape c (Fail s j) Done x sound u = struck_sound shape c (2 * s + j) x sound u.2
view_sound shape c (Cat path) (Given lines) x sound u = same_sound shape c x sound u.3
view_sound shape c (Cat path) (Refused refusal) x sound u = same_sound shape c x sound u.2
view_sound shape c (Cat path) Unavailable x sound u = same_sound shape c x sound u.1
view_sound shape c (Ls path) (ListedReply entries) x sound u = same_sound shape c x sound u.2
view_sound shape c (Ls path) (Refused refusal) x sound u = same_sound shape c x sound u.2
view_sound shape c (Ls path) Unavailable x sound u = same_sound shape c x sound u.1
view_sound shape c event r x sound u = absurd u
