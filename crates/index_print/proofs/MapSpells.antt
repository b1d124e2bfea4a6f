-- The tokens of a printed map spell it.
use Rattle.std.proofs.Common.{◌≡◌, ℕ, List, [], ◌∷◌, ◌++◌, refl, sym, subst, ap, ◌∙◌, append_assoc, append-nil, codes, map, flat_map}
use Rattle.index_tokens.specs.declared.token.Token.TheVariants as t
use Rattle.index_tokens.specs.Tokens.{placed, tokens_from, tokens_of}
use Rattle.index_tokens.specs.Words.{Tokens}
use Rattle.index_tokens.specs.Reads.{Kind}
use Rattle.index_tokens.proofs.WordLemmas.{is_variable}
use Rattle.index_tree.specs.declared.map_query.Clause.{Clause}
use Rattle.index_tree.specs.declared.map_query.Clause.TheVariants as c
use Rattle.index_tree.specs.declared.map_query.MapMember.{MapMember}
use Rattle.index_tree.specs.declared.map_query.MapQuery.{MapQuery}
use Rattle.index_tree.specs.Trees.{Tree}
use Rattle.index_grammar.specs.declared.spelled.PlacedMember.{PlacedMember}
use Rattle.index_grammar.specs.declared.spelled.SpelledMap.{SpelledMap}
use Rattle.index_grammar.specs.Maps.{SpellsOrigin, origin_of, SpellsClause, filter, binding, SpellsClauses, no_clause, next_clause, placed_member, SpellsMember, named, SpellsMembers, last, more, SpellsEntry, spelled_map, SpellsMap}
use Rattle.index_grammar.specs.Maps as grammar
use Rattle.index_grammar.specs.View.{query_of}
use Rattle.index_grammar.specs.Limits.{limit}
use Rattle.index_grammar.specs.MapReading.{map_text}
use Rattle.index_grammar.proofs.MapMeets.{map_text_meets}
use Rattle.exact_parse.specs.Exact.{Meets}
use Rattle.exact_parse.specs.Limits.{Verdict, Fine, Over}
use Rattle.exact_parse.specs.Steps.{Outcome}
use Rattle.index_tokens.specs.declared.token.Placed.{Placed}
use Rattle.index_print.specs.ReadBack.{ReadsBack}
use Rattle.index_print.specs.Print.{printed, listed, clause, member, origin, printed_map}
use Rattle.index_print.specs.Spellable.{IsName, IsVariable, IsSpellableClause, IsSpellableMember, Each, HasSome, IsSpellableMap, IsApart}
use Rattle.index_print.proofs.Prefixes.{word_next, word_gap, gap_word_gap, point_next, comma_next, assign_next, brace_gap, close_brace_next}
use Rattle.index_print.proofs.ExpressionSpells.{After, up_to, from_on, expression_spelled}

-- ---- which documents

origin_text : (var collection s : List ℕ) → codes "from " ++ (var ++ (codes " in docs." ++ (collection ++ s))) ≡ origin var collection ++ s
origin_text var collection s = simp append_assoc

origin_spelled : (var collection : List ℕ) → IsVariable var → IsName collection → (place : ℕ) (s : List ℕ) → IsApart s
    → After (λ m r. SpellsOrigin m (origin_of var collection) r) place (origin var collection ++ s) s
origin_spelled var collection h name place s apart =
    let last_part = collection ++ s in
    let a = word_gap (codes "from") (refl, refl) place (var ++ (codes " in docs." ++ last_part)) in
    let b = word_gap var h.0 a.behind (codes "in docs." ++ last_part) in
    let c = word_gap (codes "in") (refl, refl) b.behind (codes "docs." ++ last_part) in
    let d = word_next (codes "docs") (refl, refl) c.behind (46 ∷ last_part) refl in
    let p = point_next d.behind last_part in
    let e = word_next collection name p.behind s apart in
    let tokens : tokens_from place 0 (codes "from " ++ (var ++ (codes " in docs." ++ last_part)))
    ≡ placed a.start (t.Word (codes "from")) ∷ placed b.start (t.Word var) ∷ placed c.start (t.Word (codes "in")) ∷ placed d.start (t.Word (codes "docs"))
    ∷ placed p.start t.Point ∷ placed e.start (t.Word collection) ∷ tokens_from e.behind 0 s =
    a.is ∙ ap (λ z. placed a.start (t.Word (codes "from")) ∷ z) (b.is ∙ ap (λ z. placed b.start (t.Word var) ∷ z) (c.is ∙ ap (λ z. placed c.start (t.Word (codes "in")) ∷ z)
    (d.is ∙ ap (λ z. placed d.start (t.Word (codes "docs")) ∷ z) (p.is ∙ ap (λ z. placed p.start t.Point ∷ z) e.is)))) in
    record {
      behind = e.behind;
      spells = subst (λ z. SpellsOrigin (tokens_from place 0 z) (origin_of var collection) (tokens_from e.behind 0 s)) (origin_text var collection s)
          (subst (λ z. SpellsOrigin z (origin_of var collection) (tokens_from e.behind 0 s)) (sym tokens) (grammar.origin refl (is_variable (placed b.start (t.Word var)) var refl h.1) refl refl refl refl));
    }

-- ---- clauses

where_spelled : (x : Tree) → IsSpellableClause (c.Where x) → (place : ℕ) (s : List ℕ) → IsApart s → After (λ m r. SpellsClause m (c.Where x) r) place (clause (c.Where x) ++ s) s
where_spelled x h place s apart =
    let rest = printed x ++ s in
    let word = gap_word_gap (codes "where") (refl, refl) place rest in
    let value = expression_spelled x h word.behind s apart in
    record {
      behind = value.behind;
      spells = from_on (λ z. SpellsClause z (c.Where x) (tokens_from value.behind 0 s)) (t.Word (codes "where")) place (codes " where " ++ rest) rest word (filter refl value.spells);
    }

let_text : (var x s : List ℕ) → codes " let " ++ (var ++ (codes " = " ++ (x ++ s))) ≡ (codes " let " ++ (var ++ (codes " = " ++ x))) ++ s
let_text var x s = simp append_assoc

let_spelled : (var : List ℕ) (x : Tree) → IsSpellableClause (c.Let var x) → (place : ℕ) (s : List ℕ) → IsApart s → After (λ m r. SpellsClause m (c.Let var x) r) place (clause (c.Let var x) ++ s) s
let_spelled var x h place s apart =
    let rest = printed x ++ s in
    let word = gap_word_gap (codes "let") (refl, refl) place (var ++ (codes " = " ++ rest)) in
    let name = word_next var h.0.0 word.behind (codes " = " ++ rest) refl in
    let assign = assign_next name.behind rest in
    let value = expression_spelled x h.1 assign.behind s apart in
    let tokens : tokens_from place 0 (codes " let " ++ (var ++ (codes " = " ++ rest)))
    ≡ placed word.start (t.Word (codes "let")) ∷ placed name.start (t.Word var) ∷ placed assign.start t.Assign ∷ tokens_from assign.behind 0 rest =
    word.is ∙ ap (λ z. placed word.start (t.Word (codes "let")) ∷ z) (name.is ∙ ap (λ z. placed name.start (t.Word var) ∷ z) assign.is) in
    record {
      behind = value.behind;
      spells = subst (λ z. SpellsClause (tokens_from place 0 z) (c.Let var x) (tokens_from value.behind 0 s)) (let_text var (printed x) s)
          (subst (λ z. SpellsClause z (c.Let var x) (tokens_from value.behind 0 s)) (sym tokens) (binding refl (is_variable (placed name.start (t.Word var)) var refl h.0.1) refl value.spells));
    }

clause_spelled : (a : Clause) → IsSpellableClause a → (place : ℕ) (s : List ℕ) → IsApart s → After (λ m r. SpellsClause m a r) place (clause a ++ s) s
clause_spelled (c.Where x) h = where_spelled x h
clause_spelled (c.Let var x) h = let_spelled var x h

clauses_apart : (cs : List Clause) (s : List ℕ) → IsApart s → IsApart (flat_map clause cs ++ s)
clauses_apart [] s apart = apart
clauses_apart (c.Where x ∷ cs) s apart = refl
clauses_apart (c.Let var x ∷ cs) s apart = refl

clauses_spelled : (cs done : List Clause) (start : Tokens) → Each IsSpellableClause cs → (place : ℕ) (s : List ℕ) → IsApart s
    → SpellsClauses start done (tokens_from place 0 (flat_map clause cs ++ s)) → After (λ m r. SpellsClauses start (done ++ cs) r) place (flat_map clause cs ++ s) s
clauses_spelled [] done start h place s apart so_far =
    record { behind = place; spells = subst (λ z. SpellsClauses start z (tokens_from place 0 s)) (sym (append-nil done)) so_far }
clauses_spelled (a ∷ cs) done start h place s apart so_far =
    let rest = flat_map clause cs ++ s in
    let one = clause_spelled a h.0 place rest (clauses_apart cs s apart) in
    let before = subst (λ z. SpellsClauses start done (tokens_from place 0 z)) (append_assoc (clause a) (flat_map clause cs) s) so_far in
    let others = clauses_spelled cs (done ++ a ∷ []) start h.1 one.behind s apart (next_clause before one.spells) in
    record { behind = others.behind; spells = subst (λ z. SpellsClauses start z (tokens_from others.behind 0 s)) (append_assoc done (a ∷ []) cs) others.spells }

-- ---- members

abbrev SpelledMember : MapMember → Tokens → Tokens → Type 0
SpelledMember m s r = (p : PlacedMember) × SpellsMember s p r × (p.member ≡ m)

member_text : (name x s : List ℕ) → name ++ (codes " = " ++ (x ++ s)) ≡ (name ++ (codes " = " ++ x)) ++ s
member_text name x s = simp append_assoc

member_spelled : (m : MapMember) → IsSpellableMember m → (place : ℕ) (s : List ℕ) → IsApart s → After (SpelledMember m) place (member m ++ s) s
member_spelled m h place s apart =
    let rest = printed m.value ++ s in
    let name = word_next m.name h.0 place (codes " = " ++ rest) refl in
    let assign = assign_next name.behind rest in
    let value = expression_spelled m.value h.1 assign.behind s apart in
    let tokens : tokens_from place 0 (m.name ++ (codes " = " ++ rest)) ≡ placed name.start (t.Word m.name) ∷ placed assign.start t.Assign ∷ tokens_from assign.behind 0 rest =
    name.is ∙ ap (λ z. placed name.start (t.Word m.name) ∷ z) assign.is in
    record {
      behind = value.behind;
      spells = subst (λ z. SpelledMember m (tokens_from place 0 z) (tokens_from value.behind 0 s)) (member_text m.name (printed m.value) s)
          (subst (λ z. SpelledMember m z (tokens_from value.behind 0 s)) (sym tokens) (placed_member name.start m.name m.value, named refl refl value.spells, refl));
    }

abbrev SpelledMembers : List MapMember → Tokens → Tokens → Type 0
SpelledMembers ms s r = (ps : List PlacedMember) × SpellsMembers s ps r × (map (λ p. p.member) ps ≡ ms)

more_text : (m rest s : List ℕ) → m ++ (44 ∷ 32 ∷ (rest ++ s)) ≡ (m ++ (44 ∷ 32 ∷ rest)) ++ s
more_text m rest s = simp append_assoc

members_spelled : (m : MapMember) (ms : List MapMember) → Each IsSpellableMember (m ∷ ms) → (place : ℕ)
    → After (SpelledMembers (m ∷ ms)) place (listed (map member (m ∷ ms)) ++ (32 ∷ 125 ∷ [])) []
members_spelled m [] h place =
    let one = member_spelled m h.0 place (32 ∷ 125 ∷ []) refl in
    let brace = close_brace_next one.behind [] in
    let spelled = up_to (SpelledMember m) t.CloseBrace place (member m ++ (32 ∷ 125 ∷ [])) (32 ∷ 125 ∷ []) [] one brace in
    record {
      behind = brace.behind;
      spells = subst (λ z. SpelledMembers (m ∷ []) (tokens_from place 0 (z ++ (32 ∷ 125 ∷ []))) (tokens_from brace.behind 0 [])) (sym (append-nil (member m)))
          (spelled.0 ∷ [], last spelled.1 refl, ap (λ z. z ∷ []) spelled.2);
    }
members_spelled m (n ∷ ms) h place =
    let rest = listed (map member (n ∷ ms)) in
    let behind = rest ++ (32 ∷ 125 ∷ []) in
    let one = member_spelled m h.0 place (44 ∷ 32 ∷ behind) refl in
    let comma = comma_next one.behind behind in
    let spelled = up_to (SpelledMember m) t.Comma place (member m ++ (44 ∷ 32 ∷ behind)) (44 ∷ 32 ∷ behind) behind one comma in
    let others = members_spelled n ms h.1 comma.behind in
    record {
      behind = others.behind;
      spells = subst (λ z. SpelledMembers (m ∷ n ∷ ms) (tokens_from place 0 z) (tokens_from others.behind 0 [])) (more_text (member m) rest (32 ∷ 125 ∷ []))
          (spelled.0 ∷ others.spells.0, more spelled.1 refl others.spells.1, ap (λ z. spelled.0.member ∷ z) others.spells.2 ∙ ap (λ z. z ∷ n ∷ ms) spelled.2);
    }

-- ---- the whole map

abbrev pub SpelledQuery : MapQuery → Tokens → Type 0
SpelledQuery query ts = (spelled : SpelledMap) × SpellsMap ts spelled [] × (query_of spelled ≡ query)

abbrev with_members : MapQuery → List MapMember → MapQuery
with_members query ms = record { var = query.var; collection = query.collection; clauses = query.clauses; members = ms }

map_by : (query : MapQuery) (m : MapMember) (ms : List MapMember) → query.members ≡ m ∷ ms → IsVariable query.var → IsName query.collection → Each IsSpellableClause query.clauses
    → Each IsSpellableMember (m ∷ ms) → SpelledQuery query (tokens_of (origin query.var query.collection ++ (flat_map clause query.clauses ++ (codes " select new { " ++ (listed (map member (m ∷ ms)) ++ codes " }")))))
map_by query m ms is var collection clauses members =
    let fields = listed (map member (m ∷ ms)) ++ codes " }" in
    let tail = codes " select new { " ++ fields in
    let rest = flat_map clause query.clauses ++ tail in
    let o = origin_spelled query.var query.collection var collection 0 rest (clauses_apart query.clauses tail refl) in
    let cs = clauses_spelled query.clauses [] (tokens_from o.behind 0 rest) clauses o.behind tail refl no_clause in
    let select = gap_word_gap (codes "select") (refl, refl) cs.behind (codes "new { " ++ fields) in
    let new_word = word_gap (codes "new") (refl, refl) select.behind (codes "{ " ++ fields) in
    let brace = brace_gap new_word.behind fields in
    let inner = members_spelled m ms members brace.behind in
    let opening : tokens_from cs.behind 0 tail ≡ placed select.start (t.Word (codes "select")) ∷ placed new_word.start (t.Word (codes "new")) ∷ placed brace.start t.OpenBrace ∷ tokens_from brace.behind 0 fields =
    select.is ∙ ap (λ z. placed select.start (t.Word (codes "select")) ∷ z) (new_word.is ∙ ap (λ z. placed new_word.start (t.Word (codes "new")) ∷ z) brace.is) in
    let entry : SpellsEntry (tokens_from cs.behind 0 tail) inner.spells.0 (tokens_from inner.behind 0 []) =
    subst (λ z. SpellsEntry z inner.spells.0 (tokens_from inner.behind 0 [])) (sym opening) (grammar.entry refl refl refl inner.spells.1) in (
      spelled_map (origin_of query.var query.collection) query.clauses inner.spells.0,
      grammar.map o.spells cs.spells entry refl,
      ap (with_members query) (inner.spells.2 ∙ sym is),
    )

some_by : (query : MapQuery) (ms : List MapMember) → query.members ≡ ms → IsVariable query.var → IsName query.collection → Each IsSpellableClause query.clauses → HasSome ms
    → Each IsSpellableMember ms → SpelledQuery query (tokens_of (origin query.var query.collection ++ (flat_map clause query.clauses ++ (codes " select new { " ++ (listed (map member ms) ++ codes " }")))))
some_by query [] is var collection clauses some members = absurd some
some_by query (m ∷ ms) is var collection clauses some members = map_by query m ms is var collection clauses members

pub map_spelled : (query : MapQuery) → IsSpellableMap query → SpelledQuery query (tokens_of (printed_map query))
map_spelled query h = some_by query query.members refl h.0 h.1 h.2 h.3 h.4

-- ---- and is read

read_by : (query : MapQuery) (spelled : SpelledMap) (v : Verdict Placed Kind) (o : Outcome Placed Kind SpelledMap) → query_of spelled ≡ query → Meets v spelled [] o → ReadsBack query o
read_by query spelled (Fine count) o is met = subst (ReadsBack query) (sym met) is
read_by query spelled (Over k p) o is met = subst (ReadsBack query) (sym met) tt

pub map_read_back : (query : MapQuery) → IsSpellableMap query → ReadsBack query (map_text 0 (tokens_of (printed_map query)))
map_read_back query h =
    let spelled = map_spelled query h in
    let ts = tokens_of (printed_map query) in
    read_by query spelled.0 (limit ts spelled.0 [] spelled.1) (map_text 0 ts) spelled.2 (map_text_meets ts [] spelled.0 spelled.1)
