-- Reads by path: from one state, where no count of faults rises, each has one reply, and leads to one state but for its counts and its label.
use Rattle.std.proofs.Common.{◌≡◌, ◌≢◌, ◌∙◌, ◌==◌, ◌<◌, ◌++◌, ℕ, true, List, [], ◌∷◌, Option, Some, None, refl, sym, ap, subst, inl, inr, arith}
use Rattle.std.specs.Prelude.{Result, is_some, Ok, Err, option_to_list}
use Rattle.std.specs.List.{concat, list_any}
use Rattle.std.specs.Option.{option_map}
use Rattle.std.proofs.lemmas.Bool.{cases_lt, false≢true}
use Rattle.std.proofs.lemmas.Bool.Decides.{nat_tests}
use Rattle.ufs_model.specs.Blocks.{Reading}
use Rattle.ufs_model.specs.Listings.{Listed, ls_of}
use Rattle.ufs_model.specs.Paths.{cat_of}
use Rattle.ufs_model.specs.Trees.{file_of, tree_of}
use Rattle.ufs_model.specs.declared.reads.PathRefusal.{PathRefusal}
use Rattle.dg_model.specs.Causes.{NoneRose}
use Rattle.dg_model.specs.Changes.{Stays}
use Rattle.dg_model.specs.Homes.{home_of}
use Rattle.dg_model.specs.Lists.{AreLines}
use Rattle.dg_model.specs.Lives.{place_in}
use Rattle.dg_model.specs.Seals.{LastLabel}
use Rattle.dg_model.specs.States.{Counts, State}
use Rattle.dg_model.specs.Steps.{Step, Touches, recent_after}
use Rattle.dg_model.specs.Tables.{is_on}
use Rattle.dg_model.specs.Wants.{want_of}
use Rattle.dg_model.specs.declared.wants.Want.TheVariants.{File}
use Rattle.dg_model.specs.declared.events.Event.TheVariants.{Cat, Ls, Tree, Home}
use Rattle.dg_model.specs.declared.members.MemberState.{MemberState}
use Rattle.dg_model.specs.declared.phases.Phase.TheVariants.{Settled}
use Rattle.dg_model.specs.declared.replies.Reply.{Reply}
use Rattle.dg_model.specs.declared.replies.Reply.TheVariants.{Unavailable, NotSettled, Given, Cut, Listed as ListedReply, ListedCut, Nodes, NodesCut, Refused, HomeAt, NoHome}
use Rattle.dg_promise.proofs.SettleLaws.{on_inside}
use Rattle.dg_promise.proofs.WantLaws.{some_block}
use Rattle.dg_promise.specs.Promises.{AreTold}
use Rattle.dg_uses.proofs.OneStep.{IsFit, one_boundary}
use Rattle.dg_uses.proofs.OneView.{lines_same, ok_same}
use Rattle.dg_uses.proofs.ReadOnce.{IsAnswer, answer_is, answer_some, not_cut_short, one_answer}
use Rattle.dg_uses.proofs.Seen.{Seen, goes_stay, seen_of, state_of, stays_seen}

-- ---- answers

-- 0 for a value, 1 for a refusal, 2 for none
abbrev pub kind : {A E : Type 0} → Option (Result A E) → ℕ
kind (Some (Ok a)) = 0
kind (Some (Err e)) = 1
kind None = 2

abbrev value : {A E : Type 0} → A → Option (Result A E) → A
value other (Some (Ok a)) = a
value other (Some (Err e)) = other
value other None = other

abbrev refusal : {A E : Type 0} → E → Option (Result A E) → E
refusal other (Some (Ok a)) = other
refusal other (Some (Err e)) = e
refusal other None = other

-- ---- options

none_some : {a : ℕ} → ◌≡◌ {A = Option ℕ} None (Some a) → ⊥
none_some e = cc

inside_some : {a b : ℕ} → ◌≡◌ {A = Option ℕ} (Some a) (Some b) → a ≡ b
inside_some e = cc

first_has : (s : ℕ) (rest : List ℕ) → list_any (λ t. t == s) (s ∷ rest) ≡ true
first_has s rest = grind (arith, nat_tests)

second_has : (t s : ℕ) → list_any (λ u. u == t) (s ∷ t ∷ []) ≡ true
second_has t s = grind (arith, nat_tests)

-- what is seen once a file was given: its inode is the first of those that were read last
abbrev pub given_by : Seen → ℕ → Seen
given_by c i = record c { recent = recent_after c.phase i c.recent }

module _ (c : Seen) where
  abbrev pub cat : List ℕ → Reading (Result (List ℕ) PathRefusal)
  cat path = cat_of c.table.shape.l c.table.shape.n path

  abbrev pub ls : List ℕ → Reading (Result (List Listed) PathRefusal)
  ls path = ls_of c.table.shape.l c.table.shape.n path

  abbrev pub tree : Reading (Result (List Listed) PathRefusal)
  tree = tree_of c.table.shape.l c.table.shape.n

  abbrev pub file : List ℕ → Reading (Result ℕ PathRefusal)
  file path = file_of c.table.shape.l c.table.shape.n path

  -- ---- what the replies answer

  abbrev pub CatIs : List ℕ → Reply → Seen → Type 0
  CatIs path (Given lines) d = IsAnswer c (cat path) (Some (Ok (concat lines))) × AreLines c.table.shape.l lines × ((i : ℕ) × ((file path c.blocks).value ≡ Ok i) × (d ≡ given_by c i))
  CatIs path (Refused bad) d = IsAnswer c (cat path) (Some (Err bad)) × (d ≡ c)
  CatIs path Unavailable d = IsAnswer c (cat path) None × (d ≡ c)
  CatIs path reply d = ⊥

  abbrev pub LsIs : List ℕ → Reply → Seen → Type 0
  LsIs path (ListedReply entries) d = IsAnswer c (ls path) (Some (Ok entries)) × (d ≡ c)
  LsIs path (Refused bad) d = IsAnswer c (ls path) (Some (Err bad)) × (d ≡ c)
  LsIs path Unavailable d = IsAnswer c (ls path) None × (d ≡ c)
  LsIs path reply d = ⊥

  abbrev pub TreeIs : Reply → Seen → Type 0
  TreeIs NotSettled d = (c.phase ≢ Settled) × (d ≡ c)
  TreeIs (Nodes entries) d = (c.phase ≡ Settled) × IsAnswer c tree (Some (Ok entries)) × (d ≡ c)
  TreeIs (Refused bad) d = (c.phase ≡ Settled) × IsAnswer c tree (Some (Err bad)) × (d ≡ c)
  TreeIs Unavailable d = (c.phase ≡ Settled) × IsAnswer c tree None × (d ≡ c)
  TreeIs reply d = ⊥

  abbrev pub HomeIs : List ℕ → Reply → Seen → Type 0
  HomeIs path NotSettled d = (c.phase ≢ Settled) × (d ≡ c)
  HomeIs path (HomeAt s copy) d = (c.phase ≡ Settled)
      × ((i : ℕ) × IsAnswer c (file path) (Some (Ok i)) × (home_of c.homes i ≡ Some (place_in c.live s)) × (home_of c.copies i ≡ option_map (place_in c.live) copy)) × (d ≡ c)
  HomeIs path NoHome d = (c.phase ≡ Settled) × ((i : ℕ) × IsAnswer c (file path) (Some (Ok i)) × (home_of c.homes i ≡ None)) × (d ≡ c)
  HomeIs path (Refused bad) d = (c.phase ≡ Settled) × IsAnswer c (file path) (Some (Err bad)) × (d ≡ c)
  HomeIs path Unavailable d = (c.phase ≡ Settled) × IsAnswer c (file path) None × (d ≡ c)
  HomeIs path reply d = ⊥

-- ---- so is each step

module _ (c : Seen) (ok : IsFit c) (l : Option LastLabel) (n : Counts) (x : State) (none : NoneRose n.faults x.counts.faults) where
  stays : Stays (state_of c l n) x → seen_of x ≡ c
  stays h = stays_seen c l n x ok.paired none h

  touched_seen : (path : List ℕ) (h : Touches AreTold (state_of c l n) path x) → seen_of x ≡ given_by c h.i
  touched_seen path h = ap seen_of h.rest ∙ ap (λ (f : ℕ → MemberState). record (given_by c h.i) { members = f }) (goes_stay c l n x ok.paired none h.goes)

  pub cat_is : (path : List ℕ) (r : Reply) → Step AreTold (state_of c l n) (Cat path) r x → CatIs c path r (seen_of x)
  cat_is path (Given lines) h =
      let seen = touched_seen path h.2 in
      (answer_some c (cat c path) l n x (Ok (concat lines)) h.1, h.0, (h.2.i, h.2.is tt, seen))
  cat_is path (Refused bad) h = let same = stays h.1 in (answer_is c (cat c path) l n x same (Some (Err bad)) h.0, same)
  cat_is path Unavailable h = let same = stays h.1 in (answer_is c (cat c path) l n x same None h.0, same)
  cat_is path (Cut lines) h = absurd (not_cut_short c (cat c path) l n x (stays h.3) (Ok (concat lines ++ h.1.0)) h.1.1 h.2)
  cat_is path r h = absurd h

  pub ls_is : (path : List ℕ) (r : Reply) → Step AreTold (state_of c l n) (Ls path) r x → LsIs c path r (seen_of x)
  ls_is path (ListedReply entries) h = let same = stays h.1 in (answer_is c (ls c path) l n x same (Some (Ok entries)) h.0, same)
  ls_is path (Refused bad) h = let same = stays h.1 in (answer_is c (ls c path) l n x same (Some (Err bad)) h.0, same)
  ls_is path Unavailable h = let same = stays h.1 in (answer_is c (ls c path) l n x same None h.0, same)
  ls_is path (ListedCut entries) h = absurd (not_cut_short c (ls c path) l n x (stays h.2) (Ok (entries ++ h.0.0)) h.0.1 h.1)
  ls_is path r h = absurd h

  pub tree_is : (r : Reply) → Step AreTold (state_of c l n) Tree r x → TreeIs c r (seen_of x)
  tree_is NotSettled h = (h.0, ap seen_of h.1)
  tree_is (Nodes entries) h = let same = stays h.2 in (h.0, answer_is c (tree c) l n x same (Some (Ok entries)) h.1, same)
  tree_is (Refused bad) h = let same = stays h.2 in (h.0, answer_is c (tree c) l n x same (Some (Err bad)) h.1, same)
  tree_is Unavailable h = let same = stays h.2 in (h.0, answer_is c (tree c) l n x same None h.1, same)
  tree_is (NodesCut entries) h = absurd (not_cut_short c (tree c) l n x (stays h.3) (Ok (entries ++ h.1.0)) h.1.1 h.2)
  tree_is r h = absurd h

  pub home_is : (path : List ℕ) (r : Reply) → Step AreTold (state_of c l n) (Home path) r x → HomeIs c path r (seen_of x)
  home_is path NotSettled h = (h.0, ap seen_of h.1)
  home_is path (HomeAt s copy) h = let same = stays h.2 in (h.0, (h.1.0, answer_is c (file c path) l n x same (Some (Ok (h.1.0))) h.1.1, h.1.2, h.1.3), same)
  home_is path NoHome h = let same = stays h.2 in (h.0, (h.1.0, answer_is c (file c path) l n x same (Some (Ok (h.1.0))) h.1.1, h.1.2), same)
  home_is path (Refused bad) h = let same = stays h.2 in (h.0, answer_is c (file c path) l n x same (Some (Err bad)) h.1, same)
  home_is path Unavailable h = let same = stays h.2 in (h.0, answer_is c (file c path) l n x same None h.1, same)
  home_is path r h = absurd h

-- ---- and one reply at most is

module _ (c : Seen) (ok : IsFit c) (d e : Seen) where
  abbrev pub IsOne : Reply → Reply → Type 0
  IsOne r q = (r ≡ q) × (d ≡ e)

  module _ {A : Type 0} (reading : Reading (Result A PathRefusal)) where
    -- two answers of one reading are of one kind
    pub differ : (a b : Option (Result A PathRefusal)) → IsAnswer c reading a → IsAnswer c reading b → kind a ≡ kind b
    differ a b h g = ap kind (one_answer c reading a b h g)

    pub one_value : (a b : A) → IsAnswer c reading (Some (Ok a)) → IsAnswer c reading (Some (Ok b)) → a ≡ b
    one_value a b h g = ap (value a) (one_answer c reading (Some (Ok a)) (Some (Ok b)) h g)

    pub one_refusal : (a b : PathRefusal) → IsAnswer c reading (Some (Err a)) → IsAnswer c reading (Some (Err b)) → a ≡ b
    one_refusal a b h g = ap (refusal a) (one_answer c reading (Some (Err a)) (Some (Err b)) h g)

  one_inode : (i j : ℕ) (found : Result ℕ PathRefusal) → found ≡ Ok i → found ≡ Ok j → i ≡ j
  one_inode i j found a b = ok_same i j found (sym a) (sym b)

  pub cat_same : (path : List ℕ) (r q : Reply) → CatIs c path r d → CatIs c path q e → IsOne r q
  cat_same path (Given lines) (Given others) h g = (
    ap Given (lines_same c.table.shape.l lines others (omega (arith, ok.table.shape.block)) h.1 g.1 (one_value (cat c path) (concat lines) (concat others) h.0 g.0)),
    h.2.2 ∙ ap (given_by c) (one_inode (h.2.0) (g.2.0) ((file c path c.blocks).value) h.2.1 g.2.1) ∙ sym g.2.2,
  )
  cat_same path (Given lines) (Refused bad) h g = absurd (omega (arith, differ (cat c path) (Some (Ok (concat lines))) (Some (Err bad)) h.0 g.0))
  cat_same path (Given lines) Unavailable h g = absurd (omega (arith, differ (cat c path) (Some (Ok (concat lines))) None h.0 g.0))
  cat_same path (Given lines) q h g = absurd g
  cat_same path (Refused bad) (Given others) h g = absurd (omega (arith, differ (cat c path) (Some (Err bad)) (Some (Ok (concat others))) h.0 g.0))
  cat_same path (Refused bad) (Refused too) h g = (ap Refused (one_refusal (cat c path) bad too h.0 g.0), h.1 ∙ sym g.1)
  cat_same path (Refused bad) Unavailable h g = absurd (omega (arith, differ (cat c path) (Some (Err bad)) None h.0 g.0))
  cat_same path (Refused bad) q h g = absurd g
  cat_same path Unavailable (Given others) h g = absurd (omega (arith, differ (cat c path) None (Some (Ok (concat others))) h.0 g.0))
  cat_same path Unavailable (Refused too) h g = absurd (omega (arith, differ (cat c path) None (Some (Err too)) h.0 g.0))
  cat_same path Unavailable Unavailable h g = (refl, h.1 ∙ sym g.1)
  cat_same path Unavailable q h g = absurd g
  cat_same path r q h g = absurd h

  pub ls_same : (path : List ℕ) (r q : Reply) → LsIs c path r d → LsIs c path q e → IsOne r q
  ls_same path (ListedReply entries) (ListedReply others) h g = (ap ListedReply (one_value (ls c path) entries others h.0 g.0), h.1 ∙ sym g.1)
  ls_same path (ListedReply entries) (Refused bad) h g = absurd (omega (arith, differ (ls c path) (Some (Ok entries)) (Some (Err bad)) h.0 g.0))
  ls_same path (ListedReply entries) Unavailable h g = absurd (omega (arith, differ (ls c path) (Some (Ok entries)) None h.0 g.0))
  ls_same path (ListedReply entries) q h g = absurd g
  ls_same path (Refused bad) (ListedReply others) h g = absurd (omega (arith, differ (ls c path) (Some (Err bad)) (Some (Ok others)) h.0 g.0))
  ls_same path (Refused bad) (Refused too) h g = (ap Refused (one_refusal (ls c path) bad too h.0 g.0), h.1 ∙ sym g.1)
  ls_same path (Refused bad) Unavailable h g = absurd (omega (arith, differ (ls c path) (Some (Err bad)) None h.0 g.0))
  ls_same path (Refused bad) q h g = absurd g
  ls_same path Unavailable (ListedReply others) h g = absurd (omega (arith, differ (ls c path) None (Some (Ok others)) h.0 g.0))
  ls_same path Unavailable (Refused too) h g = absurd (omega (arith, differ (ls c path) None (Some (Err too)) h.0 g.0))
  ls_same path Unavailable Unavailable h g = (refl, h.1 ∙ sym g.1)
  ls_same path Unavailable q h g = absurd g
  ls_same path r q h g = absurd h

  pub tree_same : (r q : Reply) → TreeIs c r d → TreeIs c q e → IsOne r q
  tree_same NotSettled NotSettled h g = (refl, h.1 ∙ sym g.1)
  tree_same NotSettled (Nodes others) h g = absurd (h.0 g.0)
  tree_same NotSettled (Refused too) h g = absurd (h.0 g.0)
  tree_same NotSettled Unavailable h g = absurd (h.0 g.0)
  tree_same NotSettled q h g = absurd g
  tree_same (Nodes entries) NotSettled h g = absurd (g.0 h.0)
  tree_same (Nodes entries) (Nodes others) h g = (ap Nodes (one_value (tree c) entries others h.1 g.1), h.2 ∙ sym g.2)
  tree_same (Nodes entries) (Refused bad) h g = absurd (omega (arith, differ (tree c) (Some (Ok entries)) (Some (Err bad)) h.1 g.1))
  tree_same (Nodes entries) Unavailable h g = absurd (omega (arith, differ (tree c) (Some (Ok entries)) None h.1 g.1))
  tree_same (Nodes entries) q h g = absurd g
  tree_same (Refused bad) NotSettled h g = absurd (g.0 h.0)
  tree_same (Refused bad) (Nodes others) h g = absurd (omega (arith, differ (tree c) (Some (Err bad)) (Some (Ok others)) h.1 g.1))
  tree_same (Refused bad) (Refused too) h g = (ap Refused (one_refusal (tree c) bad too h.1 g.1), h.2 ∙ sym g.2)
  tree_same (Refused bad) Unavailable h g = absurd (omega (arith, differ (tree c) (Some (Err bad)) None h.1 g.1))
  tree_same (Refused bad) q h g = absurd g
  tree_same Unavailable NotSettled h g = absurd (g.0 h.0)
  tree_same Unavailable (Nodes others) h g = absurd (omega (arith, differ (tree c) None (Some (Ok others)) h.1 g.1))
  tree_same Unavailable (Refused too) h g = absurd (omega (arith, differ (tree c) None (Some (Err too)) h.1 g.1))
  tree_same Unavailable Unavailable h g = (refl, h.2 ∙ sym g.2)
  tree_same Unavailable q h g = absurd g
  tree_same r q h g = absurd h

  -- ---- homes

  module _ (settled : c.phase ≡ Settled) where
    -- a block of a file that has a home
    block_of : (i s : ℕ) → home_of c.homes i ≡ Some s → (b : ℕ) × (want_of (ok.placed settled).0 b ≡ Some (File i))
    block_of i s home = some_block (ok.placed settled).0 i (((ok.placed settled).1.homes_are i).0 (ap is_some home))

    on_it : (b s : ℕ) → is_on c.table b s ≡ true → s < c.table.shape.b
    on_it b s on = elim (cases_lt s c.table.shape.b) [
      | inl low ↦ low
      | inr past ↦ absurd (false≢true (sym (on_inside c.table ok.table b s past) ∙ on))
    ]

    home_low : (i s : ℕ) → home_of c.homes i ≡ Some s → s < c.table.shape.b
    home_low i s home =
        let b = block_of i s home in
        on_it (b.0) s ((ok.placed settled).1.file (b.0) i (b.1) s
        ∙ ap (λ (x : Option ℕ). list_any (λ t. t == s) (option_to_list x ++ option_to_list (home_of c.copies i))) home ∙ first_has s (option_to_list (home_of c.copies i)))

    copy_low : (i t : ℕ) → home_of c.copies i ≡ Some t → t < c.table.shape.b
    copy_low i t copy =
        let home = (ok.placed settled).1.copies_are i t copy in
        let b = block_of i (home.0) (home.1) in
        on_it (b.0) t ((ok.placed settled).1.file (b.0) i (b.1) t
        ∙ ap (λ (x : Option ℕ). list_any (λ s. s == t) (option_to_list x ++ option_to_list (home_of c.copies i))) (home.1)
        ∙ ap (λ (x : Option ℕ). list_any (λ s. s == t) (home.0 ∷ option_to_list x)) copy ∙ second_has t (home.0))

    -- one place is that of one boundary
    number_same : (s t u : ℕ) → u < c.table.shape.b → place_in c.live s ≡ u → place_in c.live t ≡ u → s ≡ t
    number_same s t u low a b = one_boundary c ok s t (omega (arith, low, a)) (a ∙ sym b)

    copies_same : (i : ℕ) (found copy other : Option ℕ) → home_of c.copies i ≡ found → found ≡ option_map (place_in c.live) copy → found ≡ option_map (place_in c.live) other → copy ≡ other
    copies_same i None None None is a b = refl
    copies_same i None None (Some w) is a b = absurd (none_some b)
    copies_same i None (Some u) other is a b = absurd (none_some a)
    copies_same i (Some t) None other is a b = absurd (none_some (sym a))
    copies_same i (Some t) (Some u) None is a b = absurd (none_some (sym b))
    copies_same i (Some t) (Some u) (Some w) is a b = ap Some (number_same u w t (copy_low i t is) (sym (inside_some a)) (sym (inside_some b)))

  at_one : (path : List ℕ) (s t : ℕ) (copy other : Option ℕ) → HomeIs c path (HomeAt s copy) d → HomeIs c path (HomeAt t other) e → HomeAt s copy ≡ HomeAt t other
  at_one path s t copy other h g =
      let i = h.1.0 in
      let same : g.1.0 ≡ i = one_value (file c path) (g.1.0) i g.1.1 h.1.1 in
      let home : home_of c.homes i ≡ Some (place_in c.live t) = subst (λ (z : ℕ). home_of c.homes z ≡ Some (place_in c.live t)) same g.1.2 in
      let copied : home_of c.copies i ≡ option_map (place_in c.live) other = subst (λ (z : ℕ). home_of c.copies z ≡ option_map (place_in c.live) other) same g.1.3 in
      let place : place_in c.live t ≡ place_in c.live s = inside_some (sym home ∙ h.1.2) in
      let boundary : s ≡ t = number_same h.0 s t (place_in c.live s) (home_low h.0 i (place_in c.live s) h.1.2) refl place in
      let copies : copy ≡ other = copies_same h.0 i (home_of c.copies i) copy other refl h.1.3 copied in
      ap (λ (z : ℕ). HomeAt z copy) boundary ∙ ap (HomeAt t) copies

  no_home : (path : List ℕ) (s : ℕ) (copy : Option ℕ) (z w : Seen) → HomeIs c path (HomeAt s copy) z → HomeIs c path NoHome w → ⊥
  no_home path s copy z w h g =
      let same : g.1.0 ≡ h.1.0 = one_value (file c path) (g.1.0) (h.1.0) g.1.1 h.1.1 in
      none_some (sym (subst (λ (i : ℕ). home_of c.homes i ≡ None) same g.1.2) ∙ h.1.2)

  pub home_same : (path : List ℕ) (r q : Reply) → HomeIs c path r d → HomeIs c path q e → IsOne r q
  home_same path NotSettled NotSettled h g = (refl, h.1 ∙ sym g.1)
  home_same path NotSettled (HomeAt s copy) h g = absurd (h.0 g.0)
  home_same path NotSettled NoHome h g = absurd (h.0 g.0)
  home_same path NotSettled (Refused too) h g = absurd (h.0 g.0)
  home_same path NotSettled Unavailable h g = absurd (h.0 g.0)
  home_same path NotSettled q h g = absurd g
  home_same path (HomeAt s copy) NotSettled h g = absurd (g.0 h.0)
  home_same path (HomeAt s copy) (HomeAt t other) h g = (at_one path s t copy other h g, h.2 ∙ sym g.2)
  home_same path (HomeAt s copy) NoHome h g = absurd (no_home path s copy d e h g)
  home_same path (HomeAt s copy) (Refused too) h g = absurd (omega (arith, differ (file c path) (Some (Ok (h.1.0))) (Some (Err too)) h.1.1 g.1))
  home_same path (HomeAt s copy) Unavailable h g = absurd (omega (arith, differ (file c path) (Some (Ok (h.1.0))) None h.1.1 g.1))
  home_same path (HomeAt s copy) q h g = absurd g
  home_same path NoHome NotSettled h g = absurd (g.0 h.0)
  home_same path NoHome (HomeAt t other) h g = absurd (no_home path t other e d g h)
  home_same path NoHome NoHome h g = (refl, h.2 ∙ sym g.2)
  home_same path NoHome (Refused too) h g = absurd (omega (arith, differ (file c path) (Some (Ok (h.1.0))) (Some (Err too)) h.1.1 g.1))
  home_same path NoHome Unavailable h g = absurd (omega (arith, differ (file c path) (Some (Ok (h.1.0))) None h.1.1 g.1))
  home_same path NoHome q h g = absurd g
  home_same path (Refused bad) NotSettled h g = absurd (g.0 h.0)
  home_same path (Refused bad) (HomeAt t other) h g = absurd (omega (arith, differ (file c path) (Some (Err bad)) (Some (Ok (g.1.0))) h.1 g.1.1))
  home_same path (Refused bad) NoHome h g = absurd (omega (arith, differ (file c path) (Some (Err bad)) (Some (Ok (g.1.0))) h.1 g.1.1))
  home_same path (Refused bad) (Refused too) h g = (ap Refused (one_refusal (file c path) bad too h.1 g.1), h.2 ∙ sym g.2)
  home_same path (Refused bad) Unavailable h g = absurd (omega (arith, differ (file c path) (Some (Err bad)) None h.1 g.1))
  home_same path (Refused bad) q h g = absurd g
  home_same path Unavailable NotSettled h g = absurd (g.0 h.0)
  home_same path Unavailable (HomeAt t other) h g = absurd (omega (arith, differ (file c path) None (Some (Ok (g.1.0))) h.1 g.1.1))
  home_same path Unavailable NoHome h g = absurd (omega (arith, differ (file c path) None (Some (Ok (g.1.0))) h.1 g.1.1))
  home_same path Unavailable (Refused too) h g = absurd (omega (arith, differ (file c path) None (Some (Err too)) h.1 g.1))
  home_same path Unavailable Unavailable h g = (refl, h.2 ∙ sym g.2)
  home_same path Unavailable q h g = absurd g
  home_same path r q h g = absurd h
