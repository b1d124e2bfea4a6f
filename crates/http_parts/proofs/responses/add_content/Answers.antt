use Rattle.std.proofs.Common.{◌≡◌, ◌++◌, ◌==◌, List, ℕ, false, codes, length, sym, ap, ◌∙◌, append_assoc, if◌then◌else◌}
use Rattle.std.specs.Fmt.{decimal}
use Rattle.std.proofs.lemmas.Bool.Decides.{nat_tests}
use Rattle.std.proofs.Common.{arith}
use Rattle.http_parts.specs.Responses.{content}
use Rattle.http_parts.proofs.responses.add_content.Goals as goal

joined : (t a d m b v w x y : List ℕ) → v ≡ t ++ a → w ≡ v ++ d → x ≡ w ++ m → y ≡ x ++ b → y ≡ t ++ (a ++ d ++ m ++ b)
joined t a d m b v w x y e f g h =
    h ∙ ap (λ z. z ++ b) (g ∙ ap (λ z. z ++ m) (f ∙ ap (λ z. z ++ d) e ∙ append_assoc t a d) ∙ append_assoc t (a ++ d) m) ∙ append_assoc t (a ++ d ++ m) b

with_body : (n : ℕ) (body : List ℕ) → (n == 204) ≡ false → content n body ≡ codes "Content-Length: " ++ decimal (length body) ++ codes "\r\nContent-Type: application/json; charset=utf-8\r\n\r\n" ++ body
with_body n body e = ap (λ v. if v then codes "\r\n" else codes "Content-Length: " ++ decimal (length body) ++ codes "\r\nContent-Type: application/json; charset=utf-8\r\n\r\n" ++ body) e

not_so : (n : ℕ) → (n ≡ 204 → ⊥) → (n == 204) ≡ false
not_so n h = grind (arith, nat_tests)

pub returns : goal.returns
returns c =
    joined _ _ _ _ _ _ _ _ _ c.in_ok-extend.ensures.ok c.in_ok-add_number.ensures c.in_ok-extend-2.ensures.ok c.in_ok-extend-3.ensures.ok
    ∙ ap (λ v. c.args.text.now ++ v) (sym (with_body c.args.status c.args.body.now (not_so c.args.status c.if-status-eq204.false)))
