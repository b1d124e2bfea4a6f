use Rattle.std.proofs.Common.{◌≡◌, ◌-◌, ◌<◌, [], ◌∷◌, length, Some, None, refl, sym, ap, ◌∙◌, arith, rules}
use Rattle.json.specs.Token.{Token}
use Rattle.json.specs.Json.{after_end_array, read_key, items, value}
use Rattle.json.specs.Reads.{token_of}
use Rattle.json.proofs.Grammar.{read_key-shorter}
use Rattle.serde_json.specs.Data.{no_members, put}
use Rattle.serde_json.specs.Read.{of_items, converted}
use Rattle.spec_data.specs.Data.{text}
use Rattle.spec_data.specs.Json.{items_of, members_of}
use Rattle.spec_data.specs.Rising.{put as own_put}
use Rattle.spec_data.proofs.MemberLemmas.{IsRising-put}
use Rattle.raven_value.specs.View.{data_of}
use Rattle.raven_json.specs.Whole.{front_value}
use Rattle.raven_json.proofs.OnePass.{text_read, number_read, flag_read, null_read, list_read, map_read, one_more, no_more, AreValues-put, next_member, no_member, all_members}
use Rattle.raven_json.proofs.direct.+direct.Goals as goal

pub read_items-items-preserved : goal.read_items-items-preserved
read_items-items-preserved t c =
    let p = value c.args.depth in
    let l = c.items in
    let n = l.invariant.0 in
    let going : (after_end_array l.reader ≡ None) × (c.take_end_array.new.self ≡ l.reader) = grind arith in
    let done = c.in_ok-item.ensures in
    let v = data_of c.in_ok-item.item in
    let r = c.read_value.new.reader in
    let less : length r < length l.reader = rw (← going.1) done.shorter in
    let turn = one_more p n l.reader r v l.found (omega (arith, l.invariant.1)) going.0 (rw (← going.1) done.ok) in (
      n - 1,
      omega (arith, l.invariant.1),
      l.invariant.2 ∙ turn ∙ ap (λ vs. converted (λ ds. items_of ds vs) (converted of_items (items p (n - 1) r))) (sym c.in_ok-push.ensures.ok),
      omega (arith, l.invariant.3),
    )

pub read_items-returns-clause-ok : goal.read_items-returns-clause-ok
read_items-returns-clause-ok t c =
    let p = value c.args.depth in
    let l = c.items in
    let n = l.invariant.0 in
    let r = c.take_end_array.new.self in
    l.invariant.2 ∙ no_more p n l.reader r l.found l.invariant.1 (grind arith)

pub read_members-members-init : goal.read_members-members-init
read_members-members-init t c = (length c.args.reader.now, no_members, omega arith, rw c.new-found.ensures tt, rw c.new-found.ensures tt, refl, omega arith)

pub read_members-members-preserved : goal.read_members-members-preserved
read_members-members-preserved t c =
    let p = value c.args.depth in
    let l = c.members in
    let n = l.invariant.0 in
    let old = l.invariant.1 in
    let k = c.in-Some.key.now in
    let s = c.next_key.new.self in
    let named : read_key l.reader ≡ Some (Some k, s) = grind arith in
    let done = c.in_ok-member.ensures in
    let v = data_of c.in_ok-member.member in
    let r = c.read_value.new.reader in
    let less = read_key-shorter l.reader (Some k) s named in
    let lesser = done.shorter in
    let next = next_member p n k l.reader s r v old (omega (arith, l.invariant.2)) named done.ok in
    let placed : c.put.new.self ≡ own_put k v l.found = c.in_ok-put.ensures.ok ∙ ap (λ name. own_put name v l.found) c.in_ok-name.ensures in (
      n - 1,
      put k next.found old,
      omega (arith, l.invariant.2),
      rw placed (AreValues-put k next.found v old l.found next.is_value l.invariant.3),
      rw placed (IsRising-put k v l.found l.invariant.4),
      l.invariant.5 ∙ next.goes_on,
      omega (arith, l.invariant.6),
    )

pub read_members-returns-clause-ok : goal.read_members-returns-clause-ok
read_members-returns-clause-ok t c =
    let p = value c.args.depth in
    let l = c.members in
    let n = l.invariant.0 in
    let old = l.invariant.1 in
    let r = c.next_key.new.self in
    ap (converted (λ found. members_of found [])) (l.invariant.5 ∙ no_member p n l.reader r old l.invariant.2 (grind arith)) ∙ all_members old l.found r l.invariant.3 l.invariant.4

pub read_value-returns-in_ok-of-in-String-clause-ok : goal.read_value-returns-in_ok-of-in-String-clause-ok
read_value-returns-in_ok-of-in-String-clause-ok t c =
    let first : c.args.reader.now ≡ token_of c.in_ok-token.token ∷ c.next.new.self = grind arith in
    let is : c.args.reader.now ≡ Token.string c.in-String.text.now ∷ c.next.new.self = grind (arith, first) in
    ap (front_value c.args.depth) is ∙ text_read c.args.depth c.in-String.text.now c.next.new.self ∙ ap (λ s. Some (text s, c.next.new.self)) (sym c.in_ok-of-in-String.ensures)

pub read_value-returns-in-Some-clause-ok : goal.read_value-returns-in-Some-clause-ok
read_value-returns-in-Some-clause-ok t c =
    let first : c.args.reader.now ≡ token_of c.in_ok-token.token ∷ c.next.new.self = grind arith in
    let is : c.args.reader.now ≡ Token.number c.in-Number.text.now ∷ c.next.new.self = grind (arith, first) in
    ap (front_value c.args.depth) is ∙ number_read c.args.depth c.in-Number.text.now c.in-Some.number c.next.new.self c.in-Some.ensures ∙ search rules

pub read_value-returns-in-Bool-clause-ok : goal.read_value-returns-in-Bool-clause-ok
read_value-returns-in-Bool-clause-ok t c =
    let first : c.args.reader.now ≡ token_of c.in_ok-token.token ∷ c.next.new.self = grind arith in
    let is : c.args.reader.now ≡ Token.boolean c.in-Bool.flag ∷ c.next.new.self = grind (arith, first) in
    ap (front_value c.args.depth) is ∙ flag_read c.args.depth c.in-Bool.flag c.next.new.self

pub read_value-returns-in-Null-clause-ok : goal.read_value-returns-in-Null-clause-ok
read_value-returns-in-Null-clause-ok t c =
    let first : c.args.reader.now ≡ token_of c.in_ok-token.token ∷ c.next.new.self = grind arith in
    let is : c.args.reader.now ≡ Token.null ∷ c.next.new.self = grind (arith, first) in
    ap (front_value c.args.depth) is ∙ null_read c.args.depth c.next.new.self

pub read_value-returns-in_ok-read_items-in-BeginArray-clause-ok : goal.read_value-returns-in_ok-read_items-in-BeginArray-clause-ok
read_value-returns-in_ok-read_items-in-BeginArray-clause-ok t c =
    let first : c.args.reader.now ≡ token_of c.in_ok-token.token ∷ c.next.new.self = grind arith in
    let is : c.args.reader.now ≡ Token.begin_array ∷ c.next.new.self = first ∙ ap (λ k. token_of k ∷ c.next.new.self) c.in-BeginArray.is in
    let found = c.in_ok-read_items-in-BeginArray in
    ap (front_value c.args.depth) is ∙ list_read c.args.depth c.next.new.self c.read_items.new.reader _ (omega arith) found.ensures.ok

pub read_value-returns-in_ok-read_members-in-BeginObject-clause-ok : goal.read_value-returns-in_ok-read_members-in-BeginObject-clause-ok
read_value-returns-in_ok-read_members-in-BeginObject-clause-ok t c =
    let first : c.args.reader.now ≡ token_of c.in_ok-token.token ∷ c.next.new.self = grind arith in
    let is : c.args.reader.now ≡ Token.begin_object ∷ c.next.new.self = first ∙ ap (λ k. token_of k ∷ c.next.new.self) c.in-BeginObject.is in
    let found = c.in_ok-read_members-in-BeginObject in
    ap (front_value c.args.depth) is ∙ map_read c.args.depth c.next.new.self c.read_members.new.reader _ (omega arith) found.ensures.ok
