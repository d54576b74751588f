-- A boundary is lost where a block is gone.
use Rattle.std.proofs.Common.{◌≡◌, ◌<◌, ℕ, true, List, [], ◌∷◌, refl, arith}
use Rattle.std.specs.List.{Contains}
use Rattle.std.proofs.lemmas.Bool.{and_parts, false≢true}
use Rattle.dg_model.proofs.MemberLaws.{has_lost_at}
use Rattle.dg_model.specs.Members.{is_lost}
use Rattle.dg_model.specs.Sites.{all_lost, has_site, is_gone}
use Rattle.dg_model.specs.States.{has_lost}
use Rattle.dg_model.specs.Tables.{IsTable, Table, sites_in}
use Rattle.dg_model.specs.declared.members.MemberState.{MemberState}
use Rattle.dg_model.specs.declared.shapes.Shape.{Shape}
use Rattle.dg_model.specs.declared.sites.Site.{Site}

lost_by : (shape : Shape) (members : ℕ → MemberState) (sites : List Site) → ((site : Site) → Contains sites site → site.boundary < shape.b)
    → has_site sites ≡ true → all_lost members sites ≡ true → has_lost shape members ≡ true
lost_by shape members [] within some lost = absurd (false≢true some)
lost_by shape members (x ∷ xs) within some lost =
    let parts = and_parts (is_lost members x.boundary) (all_lost members xs) lost in
    has_lost_at shape members x.boundary (within x (0, omega arith, refl)) parts.0

pub gone_lost : (table : Table) (members : ℕ → MemberState) (b : ℕ) → IsTable table → is_gone table members b ≡ true → has_lost table.shape members ≡ true
gone_lost table members b is gone =
    let parts = and_parts (has_site (sites_in table b)) (all_lost members (sites_in table b)) gone in
    lost_by table.shape members (sites_in table b) (λ site here. is.boundaries b site.boundary site.slot here) parts.0 parts.1
