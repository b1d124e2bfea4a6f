-- Values with the same code are the same, so a comparison of codes is one of values.
use Rattle.std.proofs.Common.{◌≡◌, ◌↔◌, Bool, false, ◌&&◌, IsTrue, ℕ, List, Option, Some, None, refl, ap}
use Rattle.std.specs.Bool.{Decides}
use Rattle.std.proofs.lemmas.Bool.Decides.{Decides-eqb, Decides-and, Decides-like, same_from_decides}
use Rattle.std.specs.Coded.{Coded, coded_list, coded_option}
use base.Stored.{Gv, gnil, gnum, gcons}
use Rattle.spec_data.specs.Codes.{text_code}
use Rattle.spec_data.specs.Members.{Path}
use Rattle.index_tree.specs.Definitions.{same_codes, is_same, map_code, reduce_code, path_code, same_definition}
use Rattle.index_definition.specs.declared.definition.DefBody.{DefBody}
use Rattle.index_definition.specs.declared.definition.DefBody.TheVariants.{Static, Auto}
use Rattle.index_definition.specs.declared.shape.Shape.{Shape}
use Rattle.index_definition.specs.DefinitionView.{automatic, definition_view}
use Rattle.index_definition.specs.Reading.{Same}

conses : (a b c d : Gv) → (a ≡ c) × (b ≡ d) → gcons a b ≡ gcons c d
conses a b c d p = λ i. gcons (p.0 i) (p.1 i)

parts : (a b c d : Gv) → gcons a b ≡ gcons c d → (a ≡ c) × (b ≡ d)
parts a b c d p = (cc, cc)

codes_decide : (g h : Gv) → Decides (same_codes g h) (g ≡ h)
codes_decide gnil gnil = (λ e. refl, λ e. refl)
codes_decide (gnum m) (gnum n) = Decides-like (same_codes (gnum m) (gnum n)) (λ e. ap gnum e) (λ e. cc) (Decides-eqb m n)
codes_decide (gcons a b) (gcons c d) =
    Decides-like (same_codes a c && same_codes b d) (conses a b c d) (parts a b c d) (Decides-and (same_codes a c) (same_codes b d) (codes_decide a c) (codes_decide b d))
codes_decide _ _ = (λ e. cc, λ e. cc)

decided : {A : Type 0} (code : Coded A) (a b : A) → Decides (is_same code a b) (a ≡ b)
decided code a b = Decides-like (is_same code a b) (code.inj a b) (λ e. ap code.code e) (codes_decide (code.code a) (code.code b))

-- two automatic definitions, part by part
automatic_decided : (c d : List ℕ) (g h : Option (List Path)) (fields others : List Path) →
    Decides (same_definition (automatic c g fields) (automatic d h others)) ((c ≡ d) × ((g ≡ h) × (fields ≡ others)))
automatic_decided c d None None fields others =
    Decides-like (is_same text_code c d && is_same (coded_list path_code) fields others) (λ e. (e.0, (refl, e.1))) (λ e. (e.0, e.1.1))
    (Decides-and (is_same text_code c d) (is_same (coded_list path_code) fields others) (decided text_code c d) (decided (coded_list path_code) fields others))
automatic_decided c d (Some groups) (Some more) fields others =
    Decides-like (is_same text_code c d && (is_same (coded_list path_code) groups more && is_same (coded_list path_code) fields others))
    (λ e. (e.0, (ap Some e.1.0, e.1.1))) (λ e. (e.0, (the_same e.1.0, e.1.1)))
    (Decides-and (is_same text_code c d) (is_same (coded_list path_code) groups more && is_same (coded_list path_code) fields others) (decided text_code c d)
    (Decides-and (is_same (coded_list path_code) groups more) (is_same (coded_list path_code) fields others) (decided (coded_list path_code) groups more) (decided (coded_list path_code) fields others)))
  where
    the_same : Some groups ≡ Some more → groups ≡ more
    the_same e = cc
automatic_decided c d None (Some more) fields others = (λ e. cc, λ e. differ e.1.0)
  where
    differ : None ≡ Some more → IsTrue false
    differ e = cc
automatic_decided c d (Some groups) None fields others = (λ e. cc, λ e. differ e.1.0)
  where
    differ : Some groups ≡ None → IsTrue false
    differ e = cc

definitions_decided : (a b : DefBody) → Decides (same_definition (definition_view a) (definition_view b)) (Same a b)
definitions_decided (Static m r t u) (Static n s v w) =
    Decides-and (is_same map_code m n) (is_same (coded_option reduce_code) r s) (decided map_code m n) (decided (coded_option reduce_code) r s)
definitions_decided (Auto a) (Auto b) =
    Decides-like (same_definition (definition_view (Auto a)) (definition_view (Auto b)))
    (λ e i. record { collection = e.0 i; groups = e.1.0 i; fields = e.1.1 i }) (λ e. (ap (λ (s : Shape). s.collection) e, (ap (λ (s : Shape). s.groups) e, ap (λ (s : Shape). s.fields) e)))
    (automatic_decided a.collection b.collection a.groups b.groups a.fields b.fields)
definitions_decided (Static m r t u) (Auto b) = unlike b.groups
  where
    unlike : (g : Option (List Path)) → Decides (same_definition (definition_view (Static m r t u)) (automatic b.collection g b.fields)) ⊥
    unlike None = (λ e. cc, λ e. absurd e)
    unlike (Some g) = (λ e. cc, λ e. absurd e)
definitions_decided (Auto a) (Static n s v w) = unlike a.groups
  where
    unlike : (g : Option (List Path)) → Decides (same_definition (automatic a.collection g a.fields) (definition_view (Static n s v w))) ⊥
    unlike None = (λ e. cc, λ e. absurd e)
    unlike (Some g) = (λ e. cc, λ e. absurd e)

pub decided_alike : (r : Bool) (a b : DefBody) → (IsTrue r ↔ Same a b) → r ≡ same_definition (definition_view a) (definition_view b)
decided_alike r a b decides = same_from_decides r (same_definition (definition_view a) (definition_view b)) (decides.0, decides.1) (definitions_decided a b)
