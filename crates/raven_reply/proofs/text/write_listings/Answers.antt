use Rattle.std.proofs.Common.{◌≡◌, ◌++◌, ◌+◌, ◌<◌, ◌∷◌, ◌∙◌, ℕ, suc, List, length, get_or, drop, map, Bool, true, sym, ap, arith, add-one, append_assoc}
use Rattle.std.proofs.Math.Seq.{drop-cons}
use Rattle.std.proofs.lemmas.List.{append-nil}
use Rattle.spec_data.specs.Data.{Data, items_of}
use Rattle.spec_data.specs.Written.{comma_if, items_text, text_of}
use Rattle.spec_server.specs.Replies.{listing_data}
use Rattle.raven_reply.proofs.text.write_listings.Goals as goal
use Rattle.raven_reply.proofs.text.write_listings.Goals.{then-later+in_ok-write_bytes, else-later}

-- one item behind those that stand there
one_more : {A : Type 0} (f : A → Data) (old all : List ℕ) (later : Bool) (xs : List A) (i : ℕ) (x : A) → i < length xs → x ≡ get_or xs i x
    → old ++ items_text later (items_of (map f (drop i xs))) ≡ all
    → ((old ++ comma_if later) ++ text_of (f x)) ++ items_text true (items_of (map f (drop (i + 1) xs))) ≡ all
one_more f old all later xs i x h e before =
    let here : drop i xs ≡ x ∷ drop (suc i) xs = drop-cons xs i x h ∙ ap (λ y. y ∷ drop (suc i) xs) (sym e) in
    let opened : old ++ (comma_if later ++ (text_of (f x) ++ items_text true (items_of (map f (drop (suc i) xs))))) ≡ all
    = sym (ap (λ l. old ++ items_text later (items_of (map f l))) here) ∙ before in
    rw add-one (simp append_assoc opened)

pub loop-listing-preserved : goal.loop-listing-preserved
loop-listing-preserved c =
    let fits : c.loop-listing.listing-index < length c.args.listings.now = omega arith in
    let comma : c.if-later.out.items ≡ c.loop-listing.out.items ++ comma_if c.loop-listing.later = elim c.if-later.branch [
      | then-later+in_ok-write_bytes w ↦ (λ i. (w.out-is i).items) ∙ w.in_ok-write_bytes.ensures ∙ ap (λ l. c.loop-listing.out.items ++ comma_if l) (sym w.if-later.true)
      | else-later w ↦ (λ i. (w.out-is i).items) ∙ sym (append-nil c.loop-listing.out.items) ∙ ap (λ l. c.loop-listing.out.items ++ comma_if l) (sym w.if-later.false)
    ] in
    ap (λ now. now ++ items_text true (items_of (map listing_data (drop (c.loop-listing.listing-index + 1) c.args.listings.now))))
    (c.in_ok-write_listing.ensures ∙ ap (λ now. now ++ text_of (listing_data c.listing-item.result)) comma)
    ∙ one_more listing_data c.loop-listing.out.items _ c.loop-listing.later c.args.listings.now c.loop-listing.listing-index c.listing-item.result fits c.listing-item.is c.loop-listing.invariant
