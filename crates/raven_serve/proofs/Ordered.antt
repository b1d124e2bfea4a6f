-- That a door's connections are served in their order.
use Rattle.std.proofs.Common.{◌≡◌, ℕ, zero, suc, List, [], ◌∷◌, ◌++◌, Bool, Option, Some, None, refl, sym, ◌∙◌, ap, subst, append_assoc, append-nil}
use Rattle.std.specs.Prelude.{map, option_map}
use Rattle.http_read.specs.declared.request.HttpRequest.{HttpRequest}
use Rattle.http_session.specs.declared.why.Why.{Why}
use Rattle.serve_ports.specs.Doors.{Doorway, Ends}
use Rattle.raven_serve.specs.Chains.{Chain, IsSession, ServesOne}
use Rattle.raven_serve.specs.InOrder.{AreSessions, ServesInOrder, came_in, handed_back}
use Rattle.raven_serve.proofs.Joining.{map_more}

-- what was left before some were taken, and one more
left_on : (a b c : Option (List Ends)) (taken : List Ends) (x : Ends) → a ≡ option_map (λ l. taken ++ l) b → b ≡ option_map (λ l. x ∷ l) c → a ≡ option_map (λ l. (taken ++ x ∷ []) ++ l) c
left_on a b None taken x e f = e ∙ ap (option_map (λ l. taken ++ l)) f
left_on a b (Some l) taken x e f = e ∙ ap (option_map (λ l. taken ++ l)) f ∙ ap Some (sym (append_assoc taken (x ∷ []) l))

back_on : (a b c : Option (List Ends)) (came : List Ends) (x : Ends) → b ≡ option_map (λ l. l ++ came) a → c ≡ option_map (λ l. l ++ x ∷ []) b → c ≡ option_map (λ l. l ++ (came ++ x ∷ [])) a
back_on None b c came x e f = f ∙ ap (option_map (λ l. l ++ x ∷ [])) e
back_on (Some l) b c came x e f = f ∙ ap (option_map (λ l. l ++ x ∷ [])) e ∙ ap Some (append_assoc l came (x ∷ []))

none_left : (a : Option (List Ends)) → a ≡ option_map (λ l. [] ++ l) a
none_left None = refl
none_left (Some l) = refl

none_back : (a : Option (List Ends)) → a ≡ option_map (λ l. l ++ []) a
none_back None = refl
none_back (Some l) = ap Some (sym (append-nil l))

module _ {D : Type 0} (A : D → HttpRequest → Bool → List ℕ → D → Type 0) (K : D → D → Type 0) where
  sessions_on : (first : D) (served : List (Ends × Ends)) (d last : D) (c : Ends × Ends) → AreSessions A K first served d → (why : Why) × IsSession A K d c.0 why last c.1 → AreSessions A K first (served ++ c ∷ []) last
  sessions_on first [] d last c e s = (last, subst (λ (x : D). (why : Why) × IsSession A K x c.0 why last c.1) e s, refl)
  sessions_on first (b ∷ served) d last c h s = (h.0, h.1, sessions_on h.0 served d last c h.2 s)

  one_more : (first : D) (before : Doorway) (d : D) (now : Doorway) (why : Why) (last : D) (after : Doorway) → ServesInOrder A K first before d now → ServesOne A K d now why last after → ServesInOrder A K first before last after
  one_more first before d now why last after h s = record {
    served = h.served ++ (s.found, s.left) ∷ [];
    sessions = sessions_on first h.served d last (s.found, s.left) h.sessions (why, s.session);
    left = subst (λ (l : List Ends). before.left ≡ option_map (λ m. l ++ m) after.left) (sym (map_more (λ (c : Ends × Ends). c.0) h.served (s.found, s.left)))
        (left_on before.left now.left after.left (came_in h.served) s.found h.left (s.accepts.left ∙ ap (option_map (λ l. s.found ∷ l)) (sym s.back.left)));
    back = subst (λ (l : List Ends). after.back ≡ option_map (λ m. m ++ l) before.back) (sym (map_more (λ (c : Ends × Ends). c.1) h.served (s.found, s.left)))
        (back_on before.back now.back after.back (handed_back h.served) s.left h.back (s.back.back ∙ ap (option_map (λ l. l ++ s.left ∷ [])) s.accepts.back));
  }

  pub in_order : (n : ℕ) (first : D) (before : Doorway) (last : D) (after : Doorway) → Chain A K n first before last after → ServesInOrder A K first before last after
  in_order zero first before last after c = record {
    served = [];
    sessions = c.0;
    left = subst (λ (d : Doorway). before.left ≡ option_map (λ l. [] ++ l) d.left) (sym c.1) (none_left before.left);
    back = subst (λ (d : Doorway). d.back ≡ option_map (λ l. l ++ []) before.back) (sym c.1) (none_back before.back);
  }
  in_order (suc n) first before last after c = one_more first before c.0 c.1 c.3.why last after (in_order n first before c.0 c.1 c.2) c.3.serves
