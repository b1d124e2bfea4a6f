-- What the lines of a script ask to write can be stored.
use Rattle.std.proofs.Common.{◌≡◌, ℕ, ◌+◌, ◌<◌, ◌≤◌, List, [], ◌∷◌, ◌++◌, Bool, true, false, not, cond, ◌&&◌, ◌||◌, ◌==◌, nat_lt, is_none, nat_le, length, codes, Option, Some, None, IfSome, Result, Ok, Err, IsUtf8, refl, sym, ap, ◌∙◌, subst, arith}
use Rattle.std.proofs.Math.Utf8.{encode, encodes, scalar, scalars}
use Rattle.std.proofs.lemmas.Bool.{leb-true, ltb-true, ltb-false, ne_eqb}
use Rattle.std.proofs.lemmas.Str.{IsUtf8-append, IsUtf8-encode, IsUtf8-from_is_utf8, IsUtf8-nil, encode_ascii}
use Rattle.std.specs.List.{list_any}
use Rattle.std.specs.Str.{bytes_eq, is_utf8}
use Rattle.spec_data.specs.Data.{Data, null, flag, num, text, array, object, Items, no_items, item, Entries, items_depth, list_of}
use Rattle.spec_data.specs.Faults.{fault_of, is_fit, max_id, max_name}
use Rattle.spec_data.specs.Json.{JsonRefusal, reading}
use Rattle.spec_data.specs.Members.{member}
use Rattle.spec_data.specs.Sound.{AreSound}
use Rattle.spec_store.specs.Commit.{Command, Expect, AnyVector, Vector}
use Rattle.index_tree.specs.Language.{LangRefusal}
use Rattle.index_tree.specs.Definitions.{Definition, Texts}
use Rattle.spec_query.specs.Query.{Query}
use Rattle.spec_query.specs.Refusals.{QueryRefusal}
use Rattle.spec_server.specs.Requests.{Request, Put, Delete, Bulk, Get, Remove, Auto, Find, Pump, Switch, Tidy, Clean, Stale, Indexes, Stats, Line}
use Rattle.spec_server.specs.Opening.{is_part}
use Rattle.spec_server.specs.Words.{LineRead, ReadRefusal, unless_name_fault, UnknownLine, BadMember, then_read, before_space, after_space, both_parts, argument_and_rest, has_byte, unless_fault, id_read, json_read, object_read, or_unknown, parts_read, is_collection, is_field, max_read, name_read, worker_read}
use Rattle.spec_server.specs.Commands.{put_read, delete_read, id_member, vector_member, put_command, delete_command, typed_command, command_read, commands_read, list_member, commands_of, bulk_read, put_of, put_if_of, delete_if_of}
use Rattle.spec_server.specs.Reading.{get_of, auto_of, drop_of, pump_of, pump_read, find_of, switch_of, stale_of, by_command, do_read, publish_of, read_of, request_of, told_of, line_of}
use Rattle.spec_server.specs.Several.{part_name}
use Rattle.spec_server.specs.Texts.{Asking, SeveralTexts, asked_by_text, asking_in, asking_of, asking_of_body, beside_in, plain_asking, query_member, defined_by, index_of, map_member, map_text, map_texts, masked_by_text, name_member, part_texts, parts_defined, reduce_member, several_in, several_maps, several_name, several_of, several_of_body, several_reduce, texts_in, texts_of_body}
use Rattle.spec_store.proofs.StoreLemmas.{both_true, either_false}
use Rattle.raven_reading.specs.Requests.{AreAll, IsByText, IsRequestBody, IsCommand, AreCommands, IsValidLine, IsValidRequest}
use Rattle.raven_lines.specs.Lines.{IsLine, SayParts, no_part, one_more}
use Rattle.raven_lines.specs.SaysQuery.{SaysQuery}
use Rattle.index_lang.specs.Says.{Says}
use Rattle.raven_reading.proofs.AskedLemmas.{query-asked}
use Rattle.raven_reading.proofs.ByKind.{holds-by-kind}
use Rattle.raven_reading.proofs.PartNames.{part-fit}
use Rattle.raven_reading.proofs.TextLemmas.{said-by}
use Rattle.raven_json.proofs.PairLemmas.{member-sound, member-depth}
use Rattle.raven_json.proofs.SoundLemmas.{AreFine, IsFine, reading-fine}
use Rattle.raven_json.proofs.Utf8Lemmas.{AreHigh, encode-high, utf8-one}

-- ARGUMENTS OF A UTF-8 TEXT

-- the first argument, and what follows its space
record AreWords (words : List ℕ) : Type 0 where
  pub front : IsUtf8 (before_space words)
  pub rest : (more : List ℕ) → after_space words ≡ Some more → IsUtf8 more

before-high : (bs xs : List ℕ) → AreHigh bs → before_space (bs ++ xs) ≡ bs ++ before_space xs
before-high [] xs h = refl
before-high (b ∷ bs) xs h =
    let high = h.0 in
    let no_space : (b == 32) ≡ false = ne_eqb b 32 (λ e. omega arith) in
    ap (λ t. cond t [] (b ∷ before_space (bs ++ xs))) no_space ∙ ap (λ ys. b ∷ ys) (before-high bs xs h.1)

after-high : (bs xs : List ℕ) → AreHigh bs → after_space (bs ++ xs) ≡ after_space xs
after-high [] xs h = refl
after-high (b ∷ bs) xs h =
    let high = h.0 in
    let no_space : (b == 32) ≡ false = ne_eqb b 32 (λ e. omega arith) in
    ap (λ t. cond t (Some (bs ++ xs)) (after_space (bs ++ xs))) no_space ∙ after-high bs xs h.1

same_text : (a b : List ℕ) → Some a ≡ Some b → a ≡ b
same_text a b h = cc

words-ascii : (b : ℕ) (xs : List ℕ) → b < 128 → IsUtf8 xs → AreWords xs → AreWords (b ∷ xs)
words-ascii b xs low u w = record {
  front = elim (b == 32) as (λ t. IsUtf8 (cond t [] (b ∷ before_space xs))) [ true ↦ IsUtf8-nil | false ↦ IsUtf8-append (b ∷ []) (before_space xs) (utf8-one b low) w.front ];
  rest = λ more. elim (b == 32) as (λ t. cond t (Some xs) (after_space xs) ≡ Some more → IsUtf8 more) [ true ↦ λ e. subst IsUtf8 (same_text xs more e) u | false ↦ λ e. w.rest more e ];
}

words-encoded : (cs : List ℕ) → scalars cs ≡ true → AreWords (encodes cs)
words-encoded [] ok = record { front = IsUtf8-nil; rest = λ more e. absurd cc }
words-encoded (c ∷ cs) ok =
    let each = both_true (scalar c) (scalars cs) ok in
    let w = words-encoded cs each.1 in
    elim (nat_lt c 128) as (λ t. nat_lt c 128 ≡ t → AreWords (encode c ++ encodes cs)) [
      | true ↦ λ low. subst (λ bs. AreWords (bs ++ encodes cs)) (sym (encode_ascii c (ltb-true c 128 low))) (words-ascii c (encodes cs) (ltb-true c 128 low) (cs, (each.1, refl)) w)
      | false ↦ λ high.
          let bytes = encode-high c (ltb-false c 128 high) in
          record {
            front = subst IsUtf8 (sym (before-high (encode c) (encodes cs) bytes)) (IsUtf8-append (encode c) (before_space (encodes cs)) (IsUtf8-encode c each.0) w.front);
            rest = λ more e. w.rest more (sym (after-high (encode c) (encodes cs) bytes) ∙ e);
          }
    ] refl

words-of : (words : List ℕ) → IsUtf8 words → AreWords words
words-of words u = subst AreWords u.1.1 (words-encoded u.0 u.1.0)

-- READING STEP BY STEP

then-ok : {A B : Type 0} (r : Result A ReadRefusal) (f : A → Result B ReadRefusal) (b : B) → then_read r f ≡ Ok b → (a : A) × (r ≡ Ok a) × (f a ≡ Ok b)
then-ok (Err refusal) f b h = absurd cc
then-ok (Ok a) f b h = (a, refl, h)

same_ok : {A : Type 0} (a b : A) → (let r : Result A ReadRefusal = Ok a in r) ≡ Ok b → a ≡ b
same_ok a b h = cc

known : {A : Type 0} (o : Option A) (a : A) → or_unknown o ≡ Ok a → o ≡ Some a
known None a h = absurd cc
known (Some b) a h = ap Some (same_ok b a h)

-- both arguments are UTF-8
record AreParts (p : List ℕ × List ℕ) : Type 0 where
  pub first : IsUtf8 p.0
  pub second : IsUtf8 p.1

same_parts : (a b : List ℕ × List ℕ) → Some a ≡ Some b → a ≡ b
same_parts a b h = cc

both-parts : (front : List ℕ) (rest : Option (List ℕ)) (p : List ℕ × List ℕ) → IsUtf8 front → ((more : List ℕ) → rest ≡ Some more → IsUtf8 more) → both_parts front rest ≡ Some p → AreParts p
both-parts [] rest p u f h = absurd cc
both-parts (b ∷ bs) None p u f h = absurd cc
both-parts (b ∷ bs) (Some []) p u f h = absurd cc
both-parts (b ∷ bs) (Some (c ∷ cs)) p u f h = subst AreParts (same_parts (b ∷ bs, c ∷ cs) p h) (record { first = u; second = f (c ∷ cs) refl })

parts-utf8 : (words : List ℕ) (p : List ℕ × List ℕ) → IsUtf8 words → parts_read words ≡ Ok p → AreParts p
parts-utf8 words p u h = let w = words-of words u in both-parts (before_space words) (after_space words) p w.front w.rest (known (argument_and_rest words) p h)

-- REQUESTS

asked : (a b : Request) → (let r : Result Request ReadRefusal = Ok a in r) ≡ Ok b → IsValidRequest a → IsValidRequest b
asked a b h f = subst IsValidRequest (same_ok a b h) f

id-fit : (id out : List ℕ) → id_read id ≡ Ok out → is_fit max_id out ≡ true
id-fit id out h = elim (fault_of max_id id) as (λ o. fault_of max_id id ≡ o → unless_fault o id ≡ Ok out → is_fit max_id out ≡ true) [
  | None ↦ λ e g. subst (λ x. is_fit max_id x ≡ true) (same_ok id out g) (ap is_none e)
  | Some fault ↦ λ e g. absurd cc
] refl h

json-ok : (r : Result Data JsonRefusal) (d : Data) → json_read r ≡ Ok d → r ≡ Ok d
json-ok (Err refusal) d h = absurd cc
json-ok (Ok v) d h = ap Ok (same_ok v d h)

-- an object that is fine is a body
object-body : (name : List ℕ) (o : Option Data) (d : Data) → object_read name o ≡ Ok d → ((v : Data) → o ≡ Some v → IsFine 100 v) → IsRequestBody d
object-body name None d h f = absurd cc
object-body name (Some null) d h f = absurd cc
object-body name (Some (flag b)) d h f = absurd cc
object-body name (Some (num n)) d h f = absurd cc
object-body name (Some (text s)) d h f = absurd cc
object-body name (Some (array ds)) d h f = absurd cc
object-body name (Some (object ms)) d h f =
    let fine = f (object ms) refl in
    subst IsRequestBody (same_ok (object ms) d h) (record { sound = fine.0; shallow = fine.1; members = ms; an_object = refl })

same_value : (a b : Data) → Some a ≡ Some b → a ≡ b
same_value a b h = cc

put-asked : (id words : List ℕ) (expected : Expect) (request : Request) → put_read id expected (reading words) ≡ Ok request → IsValidRequest request
put-asked id words expected request h =
    let v = then-ok (json_read (reading words)) (λ value. then_read (id_read id) (λ id. then_read (object_read (codes "body") (Some value)) (λ body. Ok (Put id expected body)))) request h in
    let i = then-ok (id_read id) (λ id. then_read (object_read (codes "body") (Some v.0)) (λ body. Ok (Put id expected body))) request v.2 in
    let b = then-ok (object_read (codes "body") (Some v.0)) (λ body. Ok (Put i.0 expected body)) request i.2 in
    let fine = reading-fine words v.0 (json-ok (reading words) v.0 v.1) in
    asked (Put i.0 expected b.0) request b.2 (record {
      commands = ((id-fit id i.0 i.1, object-body (codes "body") (Some v.0) b.0 b.1 (λ x e. subst (IsFine 100) (same_value v.0 x e) fine)), tt);
      indexing = tt;
    })

delete-asked : (expected : Expect) (id : List ℕ) (request : Request) → delete_read expected id ≡ Ok request → IsValidRequest request
delete-asked expected id request h = let i = then-ok (id_read id) (λ id. Ok (Delete id expected)) request h in asked (Delete i.0 expected) request i.2 (record { commands = (tt, tt); indexing = tt })

-- TRANSACTIONS

items-fine : (n : ℕ) (ds : Items) → AreSound ds → items_depth ds ≤ n → AreFine n (list_of ds)
items-fine n no_items s le = tt
items-fine n (item d ds) s le = ((s.0, omega arith), items-fine n ds s.1 (omega arith))

id-member : (o : Option Data) (id : List ℕ) → id_member o ≡ Ok id → is_fit max_id id ≡ true
id-member None id h = absurd cc
id-member (Some null) id h = absurd cc
id-member (Some (flag b)) id h = absurd cc
id-member (Some (num n)) id h = absurd cc
id-member (Some (array ds)) id h = absurd cc
id-member (Some (object ms)) id h = absurd cc
id-member (Some (text s)) id h = id-fit s id h

same_command : (a b : Command) → (let r : Result Command ReadRefusal = Ok a in r) ≡ Ok b → a ≡ b
same_command a b h = cc

member-fine : (name : List ℕ) (ms : Entries) (d : Data) → IsFine 100 (object ms) → member name ms ≡ Some d → IsFine 100 d
member-fine name ms d f e = let deep = f.1 in let less = member-depth name ms d e in (member-sound name ms d f.0.1 e, omega arith)

put-command : (ms : Entries) (c : Command) → IsFine 100 (object ms) → put_command ms ≡ Ok c → IsCommand c
put-command ms c f h =
    let i = then-ok (id_member (member (codes "Id") ms)) (λ id. then_read (vector_member (member (codes "ChangeVector") ms)) (λ expected. then_read (object_read (codes "Document") (member (codes "Document") ms)) (λ body. Ok (Command.Put id expected body)))) c h in
    let v = then-ok (vector_member (member (codes "ChangeVector") ms)) (λ expected. then_read (object_read (codes "Document") (member (codes "Document") ms)) (λ body. Ok (Command.Put i.0 expected body))) c i.2 in
    let b = then-ok (object_read (codes "Document") (member (codes "Document") ms)) (λ body. Ok (Command.Put i.0 v.0 body)) c v.2 in
    subst IsCommand (same_command (Command.Put i.0 v.0 b.0) c b.2)
    (id-member (member (codes "Id") ms) i.0 i.1, object-body (codes "Document") (member (codes "Document") ms) b.0 b.1 (λ d e. member-fine (codes "Document") ms d f e))

delete-command : (ms : Entries) (c : Command) → delete_command ms ≡ Ok c → IsCommand c
delete-command ms c h =
    let i = then-ok (id_member (member (codes "Id") ms)) (λ id. then_read (vector_member (member (codes "ChangeVector") ms)) (λ expected. Ok (Command.Delete id expected))) c h in
    let v = then-ok (vector_member (member (codes "ChangeVector") ms)) (λ expected. Ok (Command.Delete i.0 expected)) c i.2 in
    subst IsCommand (same_command (Command.Delete i.0 v.0) c v.2) tt

typed-command : (o : Option Data) (ms : Entries) (c : Command) → IsFine 100 (object ms) → typed_command o ms ≡ Ok c → IsCommand c
typed-command None ms c f h = absurd cc
typed-command (Some null) ms c f h = absurd cc
typed-command (Some (flag b)) ms c f h = absurd cc
typed-command (Some (num n)) ms c f h = absurd cc
typed-command (Some (array ds)) ms c f h = absurd cc
typed-command (Some (object ns)) ms c f h = absurd cc
typed-command (Some (text t)) ms c f h = elim (bytes_eq t (codes "PUT")) as (λ b. cond b (put_command ms) (cond (bytes_eq t (codes "DELETE")) (delete_command ms) (Err (BadMember (codes "Type")))) ≡ Ok c → IsCommand c) [
  | true ↦ λ g. put-command ms c f g
  | false ↦ λ g. elim (bytes_eq t (codes "DELETE")) as (λ b. cond b (delete_command ms) (Err (BadMember (codes "Type"))) ≡ Ok c → IsCommand c) [
    | true ↦ λ k. delete-command ms c k
    | false ↦ λ k. absurd cc
  ] g
] h

command-asked : (d : Data) (c : Command) → IsFine 100 d → command_read d ≡ Ok c → IsCommand c
command-asked null c f h = absurd cc
command-asked (flag b) c f h = absurd cc
command-asked (num n) c f h = absurd cc
command-asked (text s) c f h = absurd cc
command-asked (array ds) c f h = absurd cc
command-asked (object ms) c f h = typed-command (member (codes "Type") ms) ms c f h

same_commands : (a b : List Command) → (let r : Result (List Command) ReadRefusal = Ok a in r) ≡ Ok b → a ≡ b
same_commands a b h = cc

commands-asked : (ds : List Data) (cs : List Command) → AreFine 100 ds → commands_read ds ≡ Ok cs → AreCommands cs
commands-asked [] cs f h = subst AreCommands (same_commands [] cs h) tt
commands-asked (d ∷ ds) cs f h =
    let c = then-ok (command_read d) (λ c. then_read (commands_read ds) (λ more. Ok (c ∷ more))) cs h in
    let m = then-ok (commands_read ds) (λ more. Ok (c.0 ∷ more)) cs c.2 in
    subst AreCommands (same_commands (c.0 ∷ m.0) cs m.2) (command-asked d c.0 f.0 c.1, commands-asked ds m.0 f.1 m.1)

list-asked : (o : Option Data) (cs : List Command) → ((d : Data) → o ≡ Some d → IsFine 100 d) → list_member o ≡ Ok cs → AreCommands cs
list-asked None cs f h = absurd cc
list-asked (Some null) cs f h = absurd cc
list-asked (Some (flag b)) cs f h = absurd cc
list-asked (Some (num n)) cs f h = absurd cc
list-asked (Some (text s)) cs f h = absurd cc
list-asked (Some (object ms)) cs f h = absurd cc
list-asked (Some (array ds)) cs f h = let fine = f (array ds) refl in let deep = fine.1 in commands-asked (list_of ds) cs (items-fine 100 ds fine.0 (omega arith)) h

commands_of-asked : (d : Data) (cs : List Command) → IsFine 100 d → commands_of d ≡ Ok cs → AreCommands cs
commands_of-asked null cs f h = absurd cc
commands_of-asked (flag b) cs f h = absurd cc
commands_of-asked (num n) cs f h = absurd cc
commands_of-asked (text s) cs f h = absurd cc
commands_of-asked (array ds) cs f h = absurd cc
commands_of-asked (object ms) cs f h = list-asked (member (codes "Commands") ms) cs (λ d e. member-fine (codes "Commands") ms d f e) h

bulk-asked : (words : List ℕ) (request : Request) → bulk_read words ≡ Ok request → IsValidRequest request
bulk-asked words request h =
    let v = then-ok (json_read (reading words)) (λ value. then_read (commands_of value) (λ commands. Ok (Bulk commands))) request h in
    let c = then-ok (commands_of v.0) (λ commands. Ok (Bulk commands)) request v.2 in
    let fine = reading-fine words v.0 (json-ok (reading words) v.0 v.1) in
    asked (Bulk c.0) request c.2 (record { commands = commands_of-asked v.0 c.0 fine c.1; indexing = tt })

-- INDEXES

-- a field has no byte that a part of a path may not have
no_part_bytes : (words : List ℕ) → has_byte 46 words ≡ false → has_byte 40 words ≡ false → has_byte 41 words ≡ false → list_any (λ b. (b == 46) || (b == 40) || (b == 41)) words ≡ false
no_part_bytes [] f g h = refl
no_part_bytes (b ∷ bs) f g h =
    let x = either_false (b == 46) (has_byte 46 bs) f in
    let y = either_false (b == 40) (has_byte 40 bs) g in
    let z = either_false (b == 41) (has_byte 41 bs) h in
    λ i. (x.0 i || y.0 i || z.0 i) || no_part_bytes bs x.1 y.1 z.1 i

field-part : (words : List ℕ) → is_field words ≡ true → is_part words ≡ true
field-part words h =
    let f = both_true (nat_lt 0 (length words)) (not (has_byte 32 words || has_byte 46 words || has_byte 40 words || has_byte 41 words)) h in
    let none = no (has_byte 32 words || has_byte 46 words || has_byte 40 words || has_byte 41 words) f.1 in
    let a = either_false (has_byte 32 words || has_byte 46 words || has_byte 40 words) (has_byte 41 words) none in
    let b = either_false (has_byte 32 words || has_byte 46 words) (has_byte 40 words) a.0 in
    let c = either_false (has_byte 32 words) (has_byte 46 words) b.0 in
    λ i. f.0 i && not (no_part_bytes words c.1 b.1 a.1 i)
  where
    no : (b : Bool) → not b ≡ true → b ≡ false
    no true e = absurd cc
    no false e = refl

auto-asked : (words : List ℕ) (request : Request) → IsUtf8 words → auto_of words ≡ Ok request → IsValidRequest request
auto-asked words request u h =
    let p = then-ok (parts_read words) (λ parts. cond (is_collection parts.0 && is_field parts.1) (Ok (Auto parts.0 parts.1)) (Err UnknownLine)) request h in
    let w = parts-utf8 words p.0 u p.1 in
    elim (is_collection p.0.0 && is_field p.0.1) as (λ b. is_collection p.0.0 && is_field p.0.1 ≡ b → cond b (Ok (Auto p.0.0 p.0.1)) (Err UnknownLine) ≡ Ok request → IsValidRequest request) [
      | true ↦ λ e g. asked (Auto p.0.0 p.0.1) request g (record { commands = tt; indexing = (w.first, (w.second, field-part p.0.1 (both_true (is_collection p.0.0) (is_field p.0.1) e).1)) })
      | false ↦ λ e g. absurd cc
    ] refl p.2

-- THE OTHER LINES

put_of-asked : (words : List ℕ) (request : Request) → put_of words ≡ Ok request → IsValidRequest request
put_of-asked words request h = let p = then-ok (parts_read words) (λ parts. put_read parts.0 AnyVector (reading parts.1)) request h in put-asked p.0.0 p.0.1 AnyVector request p.2

put_if_of-asked : (words : List ℕ) (request : Request) → put_if_of words ≡ Ok request → IsValidRequest request
put_if_of-asked words request h =
    let p = then-ok (parts_read words) (λ parts. then_read (parts_read parts.1) (λ rest. put_read parts.0 (Vector rest.0) (reading rest.1))) request h in
    let q = then-ok (parts_read p.0.1) (λ rest. put_read p.0.0 (Vector rest.0) (reading rest.1)) request p.2 in
    put-asked p.0.0 q.0.1 (Vector q.0.0) request q.2

delete_if_of-asked : (words : List ℕ) (request : Request) → delete_if_of words ≡ Ok request → IsValidRequest request
delete_if_of-asked words request h = let p = then-ok (parts_read words) (λ parts. delete_read (Vector parts.0) parts.1) request h in delete-asked (Vector p.0.0) p.0.1 request p.2

get-asked : (words : List ℕ) (request : Request) → get_of words ≡ Ok request → IsValidRequest request
get-asked words request h = let i = then-ok (id_read words) (λ id. Ok (Get id)) request h in asked (Get i.0) request i.2 (record { commands = tt; indexing = tt })

pump-asked : (words : List ℕ) (request : Request) → pump_of words ≡ Ok request → IsValidRequest request
pump-asked words request h = by (argument_and_rest words) h
  where
    by : (parts : Option (List ℕ × List ℕ)) → pump_read words parts ≡ Ok request → IsValidRequest request
    by None g = let m = then-ok (max_read words) (λ max. Ok (Pump max None)) request g in asked (Pump m.0 None) request m.2 (record { commands = tt; indexing = tt })
    by (Some parts) g =
        let m = then-ok (max_read parts.0) (λ max. then_read (name_read parts.1) (λ name. Ok (Pump max (Some name)))) request g in
        let n = then-ok (name_read parts.1) (λ name. Ok (Pump m.0 (Some name))) request m.2 in
        asked (Pump m.0 (Some n.0)) request n.2 (record { commands = tt; indexing = tt })

drop-asked : (words : List ℕ) (request : Request) → drop_of words ≡ Ok request → IsValidRequest request
drop-asked words request h = let n = then-ok (name_read words) (λ name. Ok (Remove name)) request h in asked (Remove n.0) request n.2 (record { commands = tt; indexing = tt })

find-asked : (words : List ℕ) (request : Request) → find_of words ≡ Ok request → IsValidRequest request
find-asked words request h =
    let p = then-ok (parts_read words) (λ parts. then_read (parts_read parts.1) (λ rest. then_read (name_read parts.0) (λ index. Ok (Find index rest.0 rest.1)))) request h in
    let q = then-ok (parts_read p.0.1) (λ rest. then_read (name_read p.0.0) (λ index. Ok (Find index rest.0 rest.1))) request p.2 in
    let n = then-ok (name_read p.0.0) (λ index. Ok (Find index q.0.0 q.0.1)) request q.2 in
    asked (Find n.0 q.0.0 q.0.1) request n.2 (record { commands = tt; indexing = tt })

switch-asked : (words : List ℕ) (request : Request) → switch_of words ≡ Ok request → IsValidRequest request
switch-asked words request h = let n = then-ok (name_read words) (λ name. Ok (Switch name)) request h in asked (Switch n.0) request n.2 (record { commands = tt; indexing = tt })

stale-asked : (words : List ℕ) (request : Request) → stale_of words ≡ Ok request → IsValidRequest request
stale-asked words request h = let n = then-ok (name_read words) (λ name. Ok (Stale name None)) request h in asked (Stale n.0 None) request n.2 (record { commands = tt; indexing = tt })

either : (b : Bool) (x y : Result Request ReadRefusal) (request : Request) → cond b x y ≡ Ok request → (x ≡ Ok request → IsValidRequest request) → (y ≡ Ok request → IsValidRequest request) → IsValidRequest request
either true x y request h f g = f h
either false x y request h f g = g h

word-asked : (word more : List ℕ) (request : Request) → IsUtf8 more → by_command word more ≡ Ok request → IsValidRequest request
word-asked word more request u h =
    either (bytes_eq word (codes "PUT")) (put_of more) _ request h (λ e. put_of-asked more request e) (λ h.
    either (bytes_eq word (codes "PUTIF")) (put_if_of more) _ request h (λ e. put_if_of-asked more request e) (λ h.
    either (bytes_eq word (codes "DEL")) (delete_read AnyVector more) _ request h (λ e. delete-asked AnyVector more request e) (λ h.
    either (bytes_eq word (codes "DELIF")) (delete_if_of more) _ request h (λ e. delete_if_of-asked more request e) (λ h.
    either (bytes_eq word (codes "BULK")) (bulk_read more) _ request h (λ e. bulk-asked more request e) (λ h.
    either (bytes_eq word (codes "GET")) (get_of more) _ request h (λ e. get-asked more request e) (λ h.
    either (bytes_eq word (codes "DROP")) (drop_of more) _ request h (λ e. drop-asked more request e) (λ h.
    either (bytes_eq word (codes "AUTO")) (auto_of more) _ request h (λ e. auto-asked more request u e) (λ h.
    either (bytes_eq word (codes "PUMP")) (pump_of more) _ request h (λ e. pump-asked more request e) (λ h.
    either (bytes_eq word (codes "FIND")) (find_of more) _ request h (λ e. find-asked more request e) (λ h.
    either (bytes_eq word (codes "SWITCH")) (switch_of more) _ request h (λ e. switch-asked more request e) (λ h.
    either (bytes_eq word (codes "STALE")) (stale_of more) (Err UnknownLine) request h (λ e. stale-asked more request e) (λ h. absurd cc))))))))))))

request-asked : (line : List ℕ) (request : Request) → IsUtf8 line → request_of line ≡ Ok request → IsValidRequest request
request-asked line request u h =
    either (bytes_eq line (codes "STATS")) (Ok Stats) _ request h (λ e. asked Stats request e (record { commands = tt; indexing = tt })) (λ h.
    either (bytes_eq line (codes "INDEXES")) (Ok Indexes) _ request h (λ e. asked Indexes request e (record { commands = tt; indexing = tt })) (λ h.
    either (bytes_eq line (codes "TIDY")) (Ok Tidy) _ request h (λ e. asked Tidy request e (record { commands = tt; indexing = tt })) (λ h.
    either (bytes_eq line (codes "CLEAN")) (Ok Clean) (then_read (parts_read line) (λ parts. by_command parts.0 parts.1)) request h (λ e. asked Clean request e (record { commands = tt; indexing = tt }))
    (λ e. let p = then-ok (parts_read line) (λ parts. by_command parts.0 parts.1) request e in let w = parts-utf8 line p.0 u p.1 in word-asked p.0.0 p.0.1 request w.second p.2))))

-- LINES WITHOUT A DEFINITION

-- what a line asks to write, if anything, can be stored
abbrev pub CanBeKept : LineRead → Type 0
CanBeKept (Err refusal) = Unit {0}
CanBeKept (Ok None) = Unit {0}
CanBeKept (Ok (Some line)) = IsValidLine line

-- what the words of a line ask to write, if anything, can be stored
abbrev IsValidIfRead : Result Line ReadRefusal → Type 0
IsValidIfRead (Err refusal) = Unit {0}
IsValidIfRead (Ok line) = IsValidLine line

then-valid : {A : Type 0} (r : Result A ReadRefusal) (more : A → Result Line ReadRefusal) → ((a : A) → IsValidIfRead (more a)) → IsValidIfRead (then_read r more)
then-valid (Err refusal) more f = tt
then-valid (Ok a) more f = f a

do-valid : (r : Result Request ReadRefusal) → ((request : Request) → r ≡ Ok request → IsValidRequest request) → IsValidIfRead (do_read r)
do-valid (Err refusal) f = tt
do-valid (Ok request) f = f request refl

told-valid : (line : List ℕ) (parts : Option (List ℕ × List ℕ)) → IsUtf8 line → IsValidIfRead (told_of line parts)
told-valid line None u = do-valid (request_of line) (λ request h. request-asked line request u h)
told-valid line (Some parts) u = elim (bytes_eq parts.0 (codes "READ")) as (λ b. IsValidIfRead (cond b (read_of parts.1) (cond (bytes_eq parts.0 (codes "PUBLISH")) (publish_of parts.1) (do_read (request_of line))))) [
  | true ↦ then-valid (parts_read parts.1) _ (λ more. then-valid (parts_read more.1) _ (λ rest. then-valid (worker_read more.0) _ (λ worker. then-valid (max_read rest.0) _ (λ max. then-valid (name_read rest.1) _ (λ index. tt)))))
  | false ↦ elim (bytes_eq parts.0 (codes "PUBLISH")) as (λ b. IsValidIfRead (cond b (publish_of parts.1) (do_read (request_of line)))) [
    | true ↦ then-valid (worker_read parts.1) _ (λ worker. tt)
    | false ↦ do-valid (request_of line) (λ request h. request-asked line request u h)
  ]
]

done : (r : Result Line ReadRefusal) → IsValidIfRead r → CanBeKept (then_read r (λ line. Ok (Some line)))
done (Err refusal) f = tt
done (Ok line) f = f

plain-asked : (line : List ℕ) → CanBeKept (line_of line)
plain-asked [] = tt
plain-asked (b ∷ bs) =
    let told = told_of (b ∷ bs) (argument_and_rest (b ∷ bs)) in
    elim (is_utf8 (b ∷ bs)) as (λ t. is_utf8 (b ∷ bs) ≡ t → CanBeKept (cond t (then_read told (λ line. Ok (Some line))) (Err UnknownLine))) [
      | true ↦ λ e. done told (told-valid (b ∷ bs) (argument_and_rest (b ∷ bs)) (IsUtf8-from_is_utf8 (b ∷ bs) e))
      | false ↦ λ e. tt
    ] refl

-- LINES WITH ONE

-- the name and the texts that a line gives
record AreTexts (given : List ℕ × Texts) : Type 0 where
  pub fit : is_fit max_name given.0 ≡ true
  pub utf8 : IsUtf8 given.1.0
  pub reduce_utf8 : IfSome given.1.1 IsUtf8

name-fit : (name out : List ℕ) → name_read name ≡ Ok out → is_fit max_name out ≡ true
name-fit name out h = elim (fault_of max_name name) as (λ o. fault_of max_name name ≡ o → unless_name_fault o name ≡ Ok out → is_fit max_name out ≡ true) [
  | None ↦ λ e g. subst (λ x. is_fit max_name x ≡ true) (same_ok name out g) (ap is_none e)
  | Some fault ↦ λ e g. absurd cc
] refl h

name-member : (o : Option Data) (name : List ℕ) → name_member o ≡ Ok name → is_fit max_name name ≡ true
name-member None name h = absurd cc
name-member (Some null) name h = absurd cc
name-member (Some (flag b)) name h = absurd cc
name-member (Some (num n)) name h = absurd cc
name-member (Some (array ds)) name h = absurd cc
name-member (Some (object ms)) name h = absurd cc
name-member (Some (text s)) name h = name-fit s name h

map-alone : (o : Option Data) (out : List ℕ) → ((d : Data) → o ≡ Some d → IsFine 100 d) → map_member None o ≡ Ok out → IsUtf8 out
map-alone None out f h = absurd cc
map-alone (Some null) out f h = absurd cc
map-alone (Some (flag b)) out f h = absurd cc
map-alone (Some (num n)) out f h = absurd cc
map-alone (Some (array ds)) out f h = absurd cc
map-alone (Some (object ms)) out f h = absurd cc
map-alone (Some (text s)) out f h = subst IsUtf8 (same_ok s out h) (f (text s) refl).0

map-first : (d : Data) (more : Items) (o : Option Data) (out : List ℕ) → AreSound (item d more) → map_member (Some (array (item d more))) o ≡ Ok out → IsUtf8 out
map-first null more o out s h = absurd cc
map-first (flag b) more o out s h = absurd cc
map-first (num n) more o out s h = absurd cc
map-first (array ds) more o out s h = absurd cc
map-first (object ms) more o out s h = absurd cc
map-first (text t) (item d more) o out s h = absurd cc
map-first (text t) no_items o out s h = subst IsUtf8 (same_ok t out h) s.0

map-member : (maps o : Option Data) (out : List ℕ) → ((d : Data) → maps ≡ Some d → IsFine 100 d) → ((d : Data) → o ≡ Some d → IsFine 100 d) → map_member maps o ≡ Ok out → IsUtf8 out
map-member None o out f g h = map-alone o out g h
map-member (Some null) o out f g h = absurd cc
map-member (Some (flag b)) o out f g h = absurd cc
map-member (Some (num n)) o out f g h = absurd cc
map-member (Some (text s)) o out f g h = absurd cc
map-member (Some (object ms)) o out f g h = absurd cc
map-member (Some (array no_items)) o out f g h = absurd cc
map-member (Some (array (item d more))) o out f g h = map-first d more o out (f (array (item d more)) refl).0 h

reduce-member : (o : Option Data) (out : Option (List ℕ)) → ((d : Data) → o ≡ Some d → IsFine 100 d) → reduce_member o ≡ Ok out → IfSome out IsUtf8
reduce-member None out f h = subst (λ x. IfSome x IsUtf8) (same_ok None out h) tt
reduce-member (Some null) out f h = subst (λ x. IfSome x IsUtf8) (same_ok None out h) tt
reduce-member (Some (flag t)) out f h = absurd cc
reduce-member (Some (num n)) out f h = absurd cc
reduce-member (Some (array ds)) out f h = absurd cc
reduce-member (Some (object ms)) out f h = absurd cc
reduce-member (Some (text s)) out f h = subst (λ x. IfSome x IsUtf8) (same_ok (Some s) out h) (f (text s) refl).0

texts-in : (ms : Entries) (given : List ℕ × Texts) → IsFine 100 (object ms) → texts_in ms ≡ Ok given → AreTexts given
texts-in ms given f h =
    let maps = map_member (member (codes "Maps") ms) (member (codes "Map") ms) in
    let reduces = reduce_member (member (codes "Reduce") ms) in
    let n = then-ok (name_member (member (codes "Name") ms)) (λ name. then_read maps (λ map. then_read reduces (λ reduce. Ok (name, (map, reduce))))) given h in
    let m = then-ok maps (λ map. then_read reduces (λ reduce. Ok (n.0, (map, reduce)))) given n.2 in
    let r = then-ok reduces (λ reduce. Ok (n.0, (m.0, reduce))) given m.2 in
    subst AreTexts (same_ok {A = List ℕ × Texts} (n.0, (m.0, r.0)) given r.2) (record {
      fit = name-member (member (codes "Name") ms) n.0 n.1;
      utf8 = map-member (member (codes "Maps") ms) (member (codes "Map") ms) m.0 (λ d e. member-fine (codes "Maps") ms d f e) (λ d e. member-fine (codes "Map") ms d f e) m.1;
      reduce_utf8 = reduce-member (member (codes "Reduce") ms) r.0 (λ d e. member-fine (codes "Reduce") ms d f e) r.1;
    })

body-texts : (d : Data) (given : List ℕ × Texts) → IsFine 100 d → texts_of_body d ≡ Ok given → AreTexts given
body-texts null given f h = absurd cc
body-texts (flag b) given f h = absurd cc
body-texts (num n) given f h = absurd cc
body-texts (text s) given f h = absurd cc
body-texts (array ds) given f h = absurd cc
body-texts (object ms) given f h = texts-in ms given f h

index-texts : (words : List ℕ) (given : List ℕ × Texts) → index_of words ≡ Ok given → AreTexts given
index-texts words given h =
    let v = then-ok (json_read (reading words)) texts_of_body given h in
    body-texts v.0 given (reading-fine words v.0 (json-ok (reading words) v.0 v.1)) v.2

-- a line that defines what texts say
defined-asked : (name : List ℕ) (texts : Texts) (answer : Result Definition LangRefusal) → AreTexts (name, texts) → Says texts answer → CanBeKept (defined_by name answer)
defined-asked name texts (Err refusal) t says = tt
defined-asked name texts (Ok d) t says =
    record { commands = tt; indexing = record { fit = t.fit; texts = texts; utf8 = t.utf8; reduce_utf8 = t.reduce_utf8; by_texts = said-by texts d says; says = says } }

-- SEVERAL MAPS INTO ONE REDUCE

-- what a line gives of an index of several maps
record AreSeveral (given : SeveralTexts) : Type 0 where
  pub fit : is_fit max_name (part_name given.name 1) ≡ true
  pub few : length given.maps ≤ 8
  pub utf8 : AreAll IsUtf8 given.maps
  pub reduce_utf8 : IsUtf8 given.reduce

read-fit : (name out : List ℕ) → name_read name ≡ Ok out → is_fit max_name name ≡ true
read-fit name out h = elim (fault_of max_name name) as (λ o. fault_of max_name name ≡ o → unless_name_fault o name ≡ Ok out → is_fit max_name name ≡ true) [
  | None ↦ λ e g. ap is_none e
  | Some fault ↦ λ e g. absurd cc
] refl h

several-name : (o : Option Data) (name : List ℕ) → several_name o ≡ Ok name → is_fit max_name (part_name name 1) ≡ true
several-name None name h = absurd cc
several-name (Some null) name h = absurd cc
several-name (Some (flag b)) name h = absurd cc
several-name (Some (num n)) name h = absurd cc
several-name (Some (array ds)) name h = absurd cc
several-name (Some (object ms)) name h = absurd cc
several-name (Some (text s)) name h =
    let p = then-ok (name_read (part_name s 1)) (λ part. Ok s) name h in
    subst (λ x. is_fit max_name (part_name x 1) ≡ true) (same_ok s name p.2) (read-fit (part_name s 1) p.0 p.1)

map-text : (d : Data) (map : List ℕ) → IsFine 100 d → map_text d ≡ Ok map → IsUtf8 map
map-text null map f h = absurd cc
map-text (flag b) map f h = absurd cc
map-text (num n) map f h = absurd cc
map-text (array ds) map f h = absurd cc
map-text (object ms) map f h = absurd cc
map-text (text s) map f h = subst IsUtf8 (same_ok s map h) f.0

-- they are UTF-8, and as many as the items
abbrev AreMaps : List Data → List (List ℕ) → Type 0
AreMaps ds maps = AreAll IsUtf8 maps × (length maps ≡ length ds)

map-texts : (ds : List Data) (maps : List (List ℕ)) → AreFine 100 ds → map_texts ds ≡ Ok maps → AreMaps ds maps
map-texts [] maps f h = subst (AreMaps []) (same_ok {A = List (List ℕ)} [] maps h) (tt, refl)
map-texts (d ∷ ds) maps f h =
    let m = then-ok (map_text d) (λ map. then_read (map_texts ds) (λ maps. Ok (map ∷ maps))) maps h in
    let r = then-ok (map_texts ds) (λ maps. Ok (m.0 ∷ maps)) maps m.2 in
    let behind = map-texts ds r.0 f.1 r.1 in
    subst (AreMaps (d ∷ ds)) (same_ok {A = List (List ℕ)} (m.0 ∷ r.0) maps r.2) ((map-text d m.0 f.0 m.1, behind.0), ap ℕ.suc behind.1)

several-maps : (o : Option Data) (maps : List (List ℕ)) → ((d : Data) → o ≡ Some d → IsFine 100 d) → several_maps o ≡ Ok maps → AreAll IsUtf8 maps × (length maps ≤ 8)
several-maps None maps f h = absurd cc
several-maps (Some null) maps f h = absurd cc
several-maps (Some (flag b)) maps f h = absurd cc
several-maps (Some (num n)) maps f h = absurd cc
several-maps (Some (text s)) maps f h = absurd cc
several-maps (Some (object ms)) maps f h = absurd cc
several-maps (Some (array ds)) maps f h =
    let items = list_of ds in
    elim (nat_le 2 (length items) && nat_le (length items) 8) as (λ b. nat_le 2 (length items) && nat_le (length items) 8 ≡ b
    → cond b (map_texts items) (Err (BadMember (codes "Maps"))) ≡ Ok maps → AreAll IsUtf8 maps × (length maps ≤ 8)) [
      | true ↦ λ e g.
          let fine = f (array ds) refl in
          let deep = fine.1 in
          let are = map-texts items maps (items-fine 100 ds fine.0 (omega arith)) g in
          let many = are.1 in
          let few = leb-true (length items) 8 (both_true (nat_le 2 (length items)) (nat_le (length items) 8) e).1 in
          (are.0, omega arith)
      | false ↦ λ e g. absurd cc
    ] refl h

several-reduce : (o : Option Data) (reduce : List ℕ) → ((d : Data) → o ≡ Some d → IsFine 100 d) → several_reduce o ≡ Ok reduce → IsUtf8 reduce
several-reduce None reduce f h = absurd cc
several-reduce (Some null) reduce f h = absurd cc
several-reduce (Some (flag b)) reduce f h = absurd cc
several-reduce (Some (num n)) reduce f h = absurd cc
several-reduce (Some (array ds)) reduce f h = absurd cc
several-reduce (Some (object ms)) reduce f h = absurd cc
several-reduce (Some (text s)) reduce f h = subst IsUtf8 (same_ok s reduce h) (f (text s) refl).0

several-in : (ms : Entries) (given : SeveralTexts) → IsFine 100 (object ms) → several_in ms ≡ Ok given → AreSeveral given
several-in ms given f h =
    let all = several_maps (member (codes "Maps") ms) in
    let reduces = several_reduce (member (codes "Reduce") ms) in
    let n = then-ok (several_name (member (codes "Name") ms)) (λ name. then_read all (λ maps. then_read reduces (λ reduce. Ok (record { name = name; maps = maps; reduce = reduce })))) given h in
    let m = then-ok all (λ maps. then_read reduces (λ reduce. Ok (record { name = n.0; maps = maps; reduce = reduce }))) given n.2 in
    let r = then-ok reduces (λ reduce. Ok (record { name = n.0; maps = m.0; reduce = reduce })) given m.2 in
    let maps = several-maps (member (codes "Maps") ms) m.0 (λ d e. member-fine (codes "Maps") ms d f e) m.1 in
    subst AreSeveral (same_ok {A = SeveralTexts} (record { name = n.0; maps = m.0; reduce = r.0 }) given r.2) (record {
      fit = several-name (member (codes "Name") ms) n.0 n.1;
      few = maps.1;
      utf8 = maps.0;
      reduce_utf8 = several-reduce (member (codes "Reduce") ms) r.0 (λ d e. member-fine (codes "Reduce") ms d f e) r.1;
    })

body-several : (d : Data) (given : SeveralTexts) → IsFine 100 d → several_of_body d ≡ Ok given → AreSeveral given
body-several null given f h = absurd cc
body-several (flag b) given f h = absurd cc
body-several (num n) given f h = absurd cc
body-several (text s) given f h = absurd cc
body-several (array ds) given f h = absurd cc
body-several (object ms) given f h = several-in ms given f h

several-texts : (words : List ℕ) (given : SeveralTexts) → several_of words ≡ Ok given → AreSeveral given
several-texts words given h =
    let v = then-ok (json_read (reading words)) several_of_body given h in body-several v.0 given (reading-fine words v.0 (json-ok (reading words) v.0 v.1)) v.2

-- the name of a part, and the text of its map
abbrev IsPartText : List ℕ × List ℕ → Type 0
IsPartText t = (is_fit max_name t.0 ≡ true) × IsUtf8 t.1

part-texts : (n : ℕ) (name : List ℕ) (maps : List (List ℕ)) → n + length maps < 10 → is_fit max_name (part_name name 1) ≡ true → AreAll IsUtf8 maps → AreAll IsPartText (part_texts n name maps)
part-texts n name [] few fit utf8 = tt
part-texts n name (map ∷ maps) few fit utf8 = ((part-fit name n (omega arith) fit, utf8.0), part-texts (n + 1) name maps (omega arith) fit utf8.1)

parts-asked : (reduce : List ℕ) (texts : List (List ℕ × List ℕ)) (parts : List (List ℕ × Definition)) → IsUtf8 reduce → AreAll IsPartText texts → SayParts reduce texts (Ok parts)
    → AreAll (λ part. IsByText part.0 part.1) parts
parts-asked reduce texts parts u are no_part = tt
parts-asked reduce ((name, map) ∷ texts) ((own, d) ∷ parts) u are (one_more says more) =
    (record { fit = are.0.0; texts = (map, Some reduce); utf8 = are.0.1; reduce_utf8 = u; by_texts = said-by (map, Some reduce) d says; says = says }, parts-asked reduce texts parts u are.1 more)

-- a line that defines what the texts of several maps say
several-asked : (texts : SeveralTexts) (answer : Result (List (List ℕ × Definition)) LangRefusal) → AreSeveral texts → SayParts texts.reduce (part_texts 1 texts.name texts.maps) answer
    → CanBeKept (parts_defined answer)
several-asked texts (Err refusal) t say = tt
several-asked texts (Ok parts) t say = record {
  commands = tt;
  indexing = parts-asked texts.reduce _ parts t.reduce_utf8 (part-texts 1 texts.name texts.maps (let few = t.few in omega arith) t.fit t.utf8) say;
}

-- QUERIES

-- the text of a query in a line
query-text : (o : Option Data) (query : List ℕ) → ((d : Data) → o ≡ Some d → IsFine 100 d) → query_member o ≡ Ok query → IsUtf8 query
query-text None query f h = absurd cc
query-text (Some null) query f h = absurd cc
query-text (Some (flag b)) query f h = absurd cc
query-text (Some (num n)) query f h = absurd cc
query-text (Some (array ds)) query f h = absurd cc
query-text (Some (object ms)) query f h = absurd cc
query-text (Some (text s)) query f h = subst IsUtf8 (same_ok s query h) (f (text s) refl).0

asking-in : (ms : Entries) (given : List ℕ × Asking) → IsFine 100 (object ms) → asking_in ms ≡ Ok given → IsUtf8 given.0
asking-in ms given f h =
    let t = then-ok (query_member (member (codes "Query") ms)) (λ words. then_read (beside_in ms) (λ asking. Ok (words, asking))) given h in
    let a = then-ok (beside_in ms) (λ asking. Ok (t.0, asking)) given t.2 in
    subst (λ (x : List ℕ × Asking). IsUtf8 x.0) (same_ok {A = List ℕ × Asking} (t.0, a.0) given a.2) (query-text (member (codes "Query") ms) t.0 (λ d e. member-fine (codes "Query") ms d f e) t.1)

body-asking : (d : Data) (given : List ℕ × Asking) → IsFine 100 d → asking_of_body d ≡ Ok given → IsUtf8 given.0
body-asking null given f h = absurd cc
body-asking (flag b) given f h = absurd cc
body-asking (num n) given f h = absurd cc
body-asking (text s) given f h = absurd cc
body-asking (array ds) given f h = absurd cc
body-asking (object ms) given f h = asking-in ms given f h

asking-text : (words : List ℕ) (given : List ℕ × Asking) → asking_of words ≡ Ok given → IsUtf8 given.0
asking-text words given h =
    let v = then-ok (json_read (reading words)) asking_of_body given h in body-asking v.0 given (reading-fine words v.0 (json-ok (reading words) v.0 v.1)) v.2

-- a query writes nothing, but an index of the paths that it names may be made for it
queried-asked : (words : List ℕ) (asking : Asking) (answer : Result Query QueryRefusal) → IsUtf8 words → SaysQuery words answer → CanBeKept (asked_by_text asking answer)
queried-asked words asking (Err refusal) u says = tt
queried-asked words asking (Ok q) u says = record { commands = tt; indexing = query-asked words q u says }

-- one of an index of several maps writes nothing, and makes none
masked-asked : (asking : Asking) (answer : Result Query QueryRefusal) → CanBeKept (masked_by_text asking answer)
masked-asked asking (Err refusal) = tt
masked-asked asking (Ok q) = record { commands = tt; indexing = tt }

-- what a line asks to write can be stored
pub line-asked : (line : List ℕ) (read : LineRead) → IsLine line read → CanBeKept read
line-asked line read is = holds-by-kind CanBeKept line (record {
  plain = plain-asked line;
  refused = λ refusal. tt;
  defined = λ rest given answer e says. defined-asked given.0 given.1 answer (index-texts rest given e) says;
  queried = λ parts answer u e says. queried-asked parts.1 plain_asking answer (let w = words-of line (IsUtf8-from_is_utf8 line u) in both-parts (before_space line) (after_space line) parts w.front w.rest e).second says;
  asked = λ rest given answer e says. queried-asked given.0 given.1 answer (asking-text rest given e) says;
  defined_several = λ rest texts answer e say. several-asked texts answer (several-texts rest texts e) say;
  asked_several = λ rest given answer e says. masked-asked given.1 answer;
}) read is
