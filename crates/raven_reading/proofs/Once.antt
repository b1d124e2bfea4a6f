-- What is read is read in one way.
use Rattle.std.proofs.Common.{◌≡◌, ◌⊎◌, inl, inr, ◌+◌, ℕ, subst, List, [], ◌∷◌, ◌++◌, Bool, true, false, Option, Some, None, Result, Ok, Err, refl, sym, ap, ◌∙◌}
use Rattle.spec_data.specs.Kept.{KeptRow}
use Rattle.spec_data.specs.Rows.{Row, Body, doc, gone}
use Rattle.spec_store.specs.Commit.{Setting}
use Rattle.spec_server.specs.Opening.{OpenedFrom, BodyForm, NoForm, AutoForm, StaticForm, ReadRow, and_then, body_form, is_defining, opened, opened_with, or_bad, rows_of, slots_after, slots_from}
use Rattle.spec_store.specs.Kept.{rows_in}
use Rattle.index_tree.specs.Language as is
use Rattle.spec_server.specs.Courses.{Machine}
use Rattle.index_tree.specs.Definitions.{Definition, Texts}
use Rattle.spec_index.specs.World.{Slot}
use Rattle.spec_query.specs.Query.{Query}
use Rattle.spec_query.specs.Refusals.{QueryRefusal}
use Rattle.spec_server.specs.Words.{LineRead}
use Rattle.spec_server.specs.Texts.{Asked, Plain, Defining, Querying, DefiningSeveral, QueryingSeveral, asked_by_text, asked_of, defined_by, masked_by_text, parts_defined}
use Rattle.index_definition.specs.DefinitionView.{definition_view}
use Rattle.index_definition.specs.declared.definition.Definition as program
use Rattle.index_definition.specs.declared.refusal.LangRefusal.TheVariants.{At}
use Rattle.index_definition.specs.declared.refusal.LangRefusal.{LangRefusal}
use Rattle.index_lang.specs.declared.reading.Trees.{Trees}
use Rattle.index_lang.specs.Parse.{AreRead, IsParsed, causes, definition, first_cause, is_long, judged_if, lengths, unless}
use Rattle.index_lang.proofs.Once.{parsed_once}
use Rattle.raven_lines.specs.Lines.{Comes, IsLine, SayParts, no_part, one_more, refused, refused_later}
use Rattle.raven_lines.specs.SaysQuery.{SaysQuery}
use Rattle.rql_grammar.specs.Kinds.{query_refusal}
use Rattle.rql_parser.specs.declared.refusal.RqlRefusal.{RqlRefusal}
use Rattle.rql_parser.specs.declared.refusal.RqlRefusal.TheVariants as rql
use Rattle.rql_parser.proofs.Answering.{one_of}
use Rattle.index_lang.specs.Openings.{AreReadRows, IsInBody, IsOfForm, IsOpened, IsOpenedBy, IsReadIf, Opens, unless_divided, without_refusal}
use Rattle.index_definition.specs.RefusalView.{refusal_view}
use Rattle.index_lang.specs.Says.{Says}

-- TEXTS

abbrev under : List ℕ → program.Definition → program.Definition
under name d = record { name = name; body = d.body }

-- the answer, with another name for the definition
abbrev renamed : List ℕ → Result program.Definition LangRefusal → Result program.Definition LangRefusal
renamed name (Ok d) = Ok (under name d)
renamed name (Err refusal) = Err refusal

unless_renamed : (n m text : List ℕ) (reduce : Option (List ℕ)) (trees : Trees) (cause : Option LangRefusal)
    → renamed m (unless cause (definition n text reduce trees)) ≡ unless cause (definition m text reduce trees)
unless_renamed n m text reduce trees (Some refusal) = refl
unless_renamed n m text reduce trees None = refl

judged_renamed : (n m text : List ℕ) (reduce : Option (List ℕ)) (trees : Result Trees LangRefusal) → renamed m (judged_if n text reduce trees) ≡ judged_if m text reduce trees
judged_renamed n m text reduce (Ok trees) = unless_renamed n m text reduce trees (first_cause (causes trees))
judged_renamed n m text reduce (Err refusal) = refl

long_renamed : (n m text : List ℕ) (reduce : Option (List ℕ)) (answer : Result program.Definition LangRefusal) (long : Option LangRefusal)
    → is_long long answer ((trees : Result Trees LangRefusal) × AreRead text reduce trees × (answer ≡ judged_if n text reduce trees))
    → is_long long (renamed m answer) ((trees : Result Trees LangRefusal) × AreRead text reduce trees × (renamed m answer ≡ judged_if m text reduce trees))
long_renamed n m text reduce answer (Some refusal) h = ap (renamed m) h
long_renamed n m text reduce answer None h = (h.0, h.1, ap (renamed m) h.2 ∙ judged_renamed n m text reduce h.0)

parsed_renamed : (n m text : List ℕ) (reduce : Option (List ℕ)) (answer : Result program.Definition LangRefusal) → IsParsed n text reduce answer → IsParsed m text reduce (renamed m answer)
parsed_renamed n m text reduce answer h = long_renamed n m text reduce answer (first_cause (lengths text reduce)) h

pub says_once : (texts : Texts) (a b : Result Definition is.LangRefusal) → Says texts a → Says texts b → a ≡ b
says_once texts (Ok d) (Ok e) x y =
    let told = parsed_once y.name texts.0 texts.1 _ _ (parsed_renamed x.name y.name texts.0 texts.1 (Ok x.definition) x.given) y.given in
    let own : under y.name x.definition ≡ y.definition = cc in
    ap Ok (x.seen ∙ ap (λ (p : program.Definition). definition_view p.body) own ∙ sym y.seen)
says_once texts (Ok d) (Err f) x y = absurd (let told = parsed_once y.name texts.0 texts.1 _ _ (parsed_renamed x.name y.name texts.0 texts.1 (Ok x.definition) x.given) y.given in cc)
says_once texts (Err e) (Ok d) x y = absurd (let told = parsed_once y.name texts.0 texts.1 _ _ (parsed_renamed x.name y.name texts.0 texts.1 (Err (At x.part x.at x.kind)) x.given) y.given in cc)
says_once texts (Err e) (Err f) x y =
    let told = parsed_once y.name texts.0 texts.1 _ _ (parsed_renamed x.name y.name texts.0 texts.1 (Err (At x.part x.at x.kind)) x.given) y.given in
    let parts : x.part ≡ y.part = cc in
    let places : x.at ≡ y.at = cc in
    let kinds : x.kind ≡ y.kind = cc in
    ap Err (x.seen ∙ (λ i. refusal_view (parts i) (places i) (kinds i)) ∙ sym y.seen)

-- PARTS OF AN INDEX OF SEVERAL MAPS

same_said : (d e : Definition) → (let r : Result Definition is.LangRefusal = Ok d in r) ≡ Ok e → d ≡ e
same_said d e h = cc

same_refusal : {A : Type 0} (x y : is.LangRefusal) → (let r : Result A is.LangRefusal = Err x in r) ≡ Err y → x ≡ y
same_refusal x y h = cc

same_list : {A : Type 0} (xs ys : List A) → (let r : Result (List A) is.LangRefusal = Ok xs in r) ≡ Ok ys → xs ≡ ys
same_list xs ys h = cc

pub parts_once : (reduce : List ℕ) (texts : List (List ℕ × List ℕ)) (a b : Result (List (List ℕ × Definition)) is.LangRefusal) → SayParts reduce texts a → SayParts reduce texts b → a ≡ b
parts_once reduce texts a b no_part no_part = refl
parts_once reduce ((name, map) ∷ texts) a b (one_more {d = d} {parts = ps} x xs) (one_more {d = e} {parts = qs} y ys) =
    let one = same_said d e (says_once (map, Some reduce) (Ok d) (Ok e) x y) in
    let more = same_list ps qs (parts_once reduce texts (Ok ps) (Ok qs) xs ys) in
    λ i. Ok ((name, one i) ∷ more i)
parts_once reduce ((name, map) ∷ texts) a b (one_more {d = d} x xs) (refused {refusal = r} y) = absurd (let told = says_once (map, Some reduce) (Ok d) (Err r) x y in cc)
parts_once reduce ((name, map) ∷ texts) a b (one_more {parts = ps} x xs) (refused_later {refusal = r} y ys) = absurd (let told = parts_once reduce texts (Ok ps) (Err r) xs ys in cc)
parts_once reduce ((name, map) ∷ texts) a b (refused {refusal = r} x) (one_more {d = e} y ys) = absurd (let told = says_once (map, Some reduce) (Err r) (Ok e) x y in cc)
parts_once reduce ((name, map) ∷ texts) a b (refused {refusal = r} x) (refused {refusal = s} y) = ap Err (same_refusal r s (says_once (map, Some reduce) (Err r) (Err s) x y))
parts_once reduce ((name, map) ∷ texts) a b (refused {refusal = r} x) (refused_later {d = e} y ys) = absurd (let told = says_once (map, Some reduce) (Err r) (Ok e) x y in cc)
parts_once reduce ((name, map) ∷ texts) a b (refused_later {refusal = r} x xs) (one_more {parts = qs} y ys) = absurd (let told = parts_once reduce texts (Err r) (Ok qs) xs ys in cc)
parts_once reduce ((name, map) ∷ texts) a b (refused_later {d = d} x xs) (refused {refusal = s} y) = absurd (let told = says_once (map, Some reduce) (Ok d) (Err s) x y in cc)
parts_once reduce ((name, map) ∷ texts) a b (refused_later {refusal = r} x xs) (refused_later {refusal = s} y ys) = parts_once reduce texts (Err r) (Err s) xs ys

-- QUERIES

same_query : (a b : Query) → (let r : Result Query RqlRefusal = Ok a in r) ≡ Ok b → a ≡ b
same_query a b h = cc

pub query_once : (text : List ℕ) (a b : Result Query QueryRefusal) → SaysQuery text a → SaysQuery text b → a ≡ b
query_once text (Ok p) (Ok q) x y = ap Ok (same_query p q (one_of text (Ok p) (Ok q) x y))
query_once text (Ok p) (Err f) x y = absurd (let told = one_of text (Ok p) (Err (rql.At y.at y.kind)) x y.given in cc)
query_once text (Err e) (Ok q) x y = absurd (let told = one_of text (Err (rql.At x.at x.kind)) (Ok q) x.given y in cc)
query_once text (Err e) (Err f) x y =
    let told = one_of text (Err (rql.At x.at x.kind)) (Err (rql.At y.at y.kind)) x.given y.given in
    let places : x.at ≡ y.at = cc in
    let kinds : x.kind ≡ y.kind = cc in
    ap Err (x.seen ∙ (λ i. query_refusal (places i) (kinds i)) ∙ sym y.seen)

-- LINES

pub comes_once : (asked : Asked) (a b : LineRead) → Comes asked a → Comes asked b → a ≡ b
comes_once (Plain told) a b x y = x ∙ sym y
comes_once (Defining name texts) a b x y = x.read ∙ ap (defined_by name) (says_once texts x.answer y.answer x.says y.says) ∙ sym y.read
comes_once (Querying text asking) a b x y = x.read ∙ ap (asked_by_text asking) (query_once text x.answer y.answer x.says y.says) ∙ sym y.read
comes_once (DefiningSeveral texts) a b x y = x.read ∙ ap parts_defined (parts_once texts.reduce _ x.answer y.answer x.says y.says) ∙ sym y.read
comes_once (QueryingSeveral text asking) a b x y = x.read ∙ ap (masked_by_text asking) (query_once text x.answer y.answer x.says y.says) ∙ sym y.read

pub line_once : (line : List ℕ) (a b : LineRead) → IsLine line a → IsLine line b → a ≡ b
line_once line a b x y = comes_once (asked_of line) a b x y

-- ROWS

form_once : (form : BodyForm) (a b : Option Definition) → IsOfForm form a → IsOfForm form b → a ≡ b
form_once NoForm a b x y = x ∙ sym y
form_once (AutoForm d) a b x y = x ∙ sym y
form_once (StaticForm may_divide texts) a b x y =
    x.told ∙ ap (λ r. unless_divided may_divide (without_refusal r)) (says_once texts x.answer y.answer x.says y.says) ∙ sym y.told

pub body_once : (body : Body) (a b : Option Definition) → IsInBody body a → IsInBody body b → a ≡ b
body_once (doc d) a b x y = form_once (body_form d) a b x y
body_once gone a b x y = x ∙ sym y

read_once : (defining : Bool) (r : Row) (a b : Option Definition) → IsReadIf defining r a → IsReadIf defining r b → a ≡ b
read_once true r a b x y = body_once r.body a b x y
read_once false r a b x y = x ∙ sym y

abbrev first_of : List Row → Row → Row
first_of [] r = r
first_of (x ∷ xs) r = x

abbrev rest_of : List Row → List Row
rest_of [] = []
rest_of (x ∷ xs) = xs

rows_once : (xs ys : List ReadRow) → rows_of xs ≡ rows_of ys → AreReadRows xs → AreReadRows ys → xs ≡ ys
rows_once [] [] h x y = refl
rows_once [] (b ∷ ys) h x y = absurd cc
rows_once (a ∷ xs) [] h x y = absurd cc
rows_once (a ∷ xs) (b ∷ ys) h x y =
    let rows : a.row ≡ b.row = ap (λ l. first_of l a.row) h in
    let mine = subst (λ r. IsReadIf (is_defining r) r a.definition) rows x.0 in
    let read = read_once (is_defining b.row) b.row a.definition b.definition mine y.0 in
    λ i. (let r : ReadRow = record { row = rows i; definition = read i } in r) ∷ rows_once xs ys (ap rest_of h) x.1 y.1 i

-- what is read of a prefix of the rows begins what is read of all rows
prefix_once : (xs ys : List ReadRow) (more : List Row) → rows_of xs ++ more ≡ rows_of ys → AreReadRows xs → AreReadRows ys → (zs : List ReadRow) × (xs ++ zs ≡ ys)
prefix_once [] ys more h x y = (ys, refl)
prefix_once (a ∷ xs) [] more h x y = absurd cc
prefix_once (a ∷ xs) (b ∷ ys) more h x y =
    let rows : a.row ≡ b.row = ap (λ l. first_of l a.row) h in
    let mine = subst (λ r. IsReadIf (is_defining r) r a.definition) rows x.0 in
    let read = read_once (is_defining b.row) b.row a.definition b.definition mine y.0 in
    let behind = prefix_once xs ys more (ap rest_of h) x.1 y.1 in
    (behind.0, λ i. (let r : ReadRow = record { row = rows i; definition = read i } in r) ∷ behind.1 i)

-- of two prefixes of the same rows, one is a prefix of the other
fronts : (xs ys : List ReadRow) (more other : List Row) → rows_of xs ++ more ≡ rows_of ys ++ other → AreReadRows xs → AreReadRows ys
    → ((zs : List ReadRow) × (xs ++ zs ≡ ys)) ⊎ ((zs : List ReadRow) × (ys ++ zs ≡ xs))
fronts [] ys more other h x y = inl (ys, refl)
fronts (a ∷ xs) [] more other h x y = inr (a ∷ xs, refl)
fronts (a ∷ xs) (b ∷ ys) more other h x y =
    let rows : a.row ≡ b.row = ap (λ l. first_of l a.row) h in
    let mine = subst (λ r. IsReadIf (is_defining r) r a.definition) rows x.0 in
    let read = read_once (is_defining b.row) b.row a.definition b.definition mine y.0 in
    elim (fronts xs ys more other (ap rest_of h) x.1 y.1) [
      | inl w ↦ inl (w.0, λ i. (let r : ReadRow = record { row = rows i; definition = read i } in r) ∷ w.1 i)
      | inr w ↦ inr (w.0, λ i. (let r : ReadRow = record { row = (sym rows) i; definition = (sym read) i } in r) ∷ w.1 i)
    ]

-- a row that is not valid is reported, whatever follows it
bad_stays : (s : Setting) (all : List Row) (count : ℕ) (slots : List Slot) (xs zs : List ReadRow) (etag : ℕ) → slots_from s all count slots xs ≡ Err etag → slots_from s all count slots (xs ++ zs) ≡ Err etag
bad_stays s all count slots [] zs etag h = absurd cc
bad_stays s all count slots (x ∷ xs) zs etag h = by (or_bad x.row.etag (slots_after s all count slots x)) (λ more g. bad_stays s all (count + 1) more xs zs etag g) h
  where
    by : (one : Result (List Slot) ℕ) → ((more : List Slot) → slots_from s all (count + 1) more xs ≡ Err etag → slots_from s all (count + 1) more (xs ++ zs) ≡ Err etag)
        → and_then one (λ more. slots_from s all (count + 1) more xs) ≡ Err etag → and_then one (λ more. slots_from s all (count + 1) more (xs ++ zs)) ≡ Err etag
    by (Err told) rest g = g
    by (Ok more) rest g = rest more g

bad_slots : (s : Setting) (rows : List Row) (told : Result (List Slot) ℕ) (etag : ℕ) → opened_with s rows told ≡ Err etag → told ≡ Err etag
bad_slots s rows (Err e) etag h = cc
bad_slots s rows (Ok slots) etag h = absurd cc

opened_bad : (s : Setting) (all : List Row) (xs zs ys : List ReadRow) (etag : ℕ) → opened s all xs ≡ Err etag → xs ++ zs ≡ ys → opened s all ys ≡ Err etag
opened_bad s all xs zs ys etag h is =
    ap (opened s all) (sym is) ∙ ap (opened_with s (rows_of (xs ++ zs))) (bad_stays s all 0 [] xs zs etag (bad_slots s (rows_of xs) (slots_from s all 0 [] xs) etag h))

pub opens_once : (s : Setting) (rows : List Row) (a b : Result Machine ℕ) → Opens s rows a → Opens s rows b → a ≡ b
opens_once s rows (Ok M) (Ok N) x y = sym x.opened ∙ ap (opened s rows) (rows_once x.read y.read (x.rows ∙ sym y.rows) x.right y.right) ∙ y.opened
opens_once s rows (Ok M) (Err etag) x y =
    let front = prefix_once y.read x.read y.unread (y.rows ∙ sym x.rows) y.right x.right in
    absurd (let told : Ok M ≡ Err etag = sym x.opened ∙ opened_bad s rows y.read front.0 x.read etag y.bad front.1 in cc)
opens_once s rows (Err etag) (Ok N) x y =
    let front = prefix_once x.read y.read x.unread (x.rows ∙ sym y.rows) x.right y.right in
    absurd (let told : Ok N ≡ Err etag = sym y.opened ∙ opened_bad s rows x.read front.0 y.read etag x.bad front.1 in cc)
opens_once s rows (Err e) (Err f) x y = elim (fronts x.read y.read x.unread y.unread (x.rows ∙ sym y.rows) x.right y.right) [
  | inl w ↦ sym (opened_bad s rows x.read w.0 y.read e x.bad w.1) ∙ y.bad
  | inr w ↦ sym x.bad ∙ opened_bad s rows y.read w.0 x.read f y.bad w.1
]

opened_once : (s : Setting) (told : Result (List Row) ℕ) (a b : Result Machine ℕ) → IsOpenedBy s told a → IsOpenedBy s told b → a ≡ b
opened_once s (Err etag) a b x y = x ∙ sym y
opened_once s (Ok rows) a b x y = opens_once s rows a b x y

pub held_once : (s : Setting) (held : List KeptRow) (a b : Result Machine ℕ) → IsOpened s held a → IsOpened s held b → a ≡ b
held_once s held a b x y = opened_once s (rows_in s.max_rows held) a b x y

opened_some : (s : Setting) (held : List KeptRow) (M : Machine) (told : Result (List Row) ℕ) → rows_in s.max_rows held ≡ told → IsOpenedBy s told (Ok M) → OpenedFrom s held M
opened_some s held M (Err etag) is x = absurd cc
opened_some s held M (Ok rows) is x = record { read = x.read; rows = is ∙ ap Ok (sym x.rows); opens = ap (λ all. opened s all x.read) x.rows ∙ x.opened }

pub held_some : (s : Setting) (held : List KeptRow) (M : Machine) → IsOpened s held (Ok M) → OpenedFrom s held M
held_some s held M x = opened_some s held M (rows_in s.max_rows held) refl x
