-- What holds of each kind of line holds of every line.
use Rattle.std.proofs.Common.{◌≡◌, ℕ, List, Bool, true, false, cond, codes, Option, Some, None, Result, Ok, Err, refl, sym, subst}
use Rattle.std.specs.Str.{bytes_eq, is_utf8}
use Rattle.index_tree.specs.Definitions.{Definition, Texts}
use Rattle.index_tree.specs.Language.{LangRefusal}
use Rattle.spec_query.specs.Query.{Query}
use Rattle.spec_query.specs.Refusals.{QueryRefusal}
use Rattle.spec_server.specs.Words.{LineRead, ReadRefusal, argument_and_rest}
use Rattle.spec_server.specs.Reading.{line_of}
use Rattle.spec_server.specs.Texts.{Asked, Asking, Plain, Querying, asked_by, asked_by_text, SeveralTexts, asked_to_define, asked_to_define_several, asked_to_query, asked_to_query_several, asked_with, asking_of, defined_by, index_of, masked_by_text, part_texts, parts_defined, plain_asking, several_of}
use Rattle.raven_lines.specs.Lines.{Comes, IsLine, SayParts}
use Rattle.raven_lines.specs.SaysQuery.{SaysQuery}
use Rattle.index_lang.specs.Says.{Says}

-- the property holds of whatever the line may be read as: by itself, or by the texts that it has
pub record HoldsByKind (P : LineRead → Type 0) (line : List ℕ) : Type 0 where
  pub plain : P (line_of line)
  pub refused : (refusal : ReadRefusal) → P (Err refusal)
  pub defined : (rest : List ℕ) (given : List ℕ × Texts) (answer : Result Definition LangRefusal) → index_of rest ≡ Ok given → Says given.1 answer → P (defined_by given.0 answer)
  pub queried : (parts : List ℕ × List ℕ) (answer : Result Query QueryRefusal) → is_utf8 line ≡ true → argument_and_rest line ≡ Some parts → SaysQuery parts.1 answer → P (asked_by_text plain_asking answer)
  pub asked : (rest : List ℕ) (given : List ℕ × Asking) (answer : Result Query QueryRefusal) → asking_of rest ≡ Ok given → SaysQuery given.0 answer → P (asked_by_text given.1 answer)
  pub defined_several : (rest : List ℕ) (texts : SeveralTexts) (answer : Result (List (List ℕ × Definition)) LangRefusal)
      → several_of rest ≡ Ok texts → SayParts texts.reduce (part_texts 1 texts.name texts.maps) answer → P (parts_defined answer)
  pub asked_several : (rest : List ℕ) (given : List ℕ × Asking) (answer : Result Query QueryRefusal) → asking_of rest ≡ Ok given → SaysQuery given.0 answer → P (masked_by_text given.1 answer)

module _ (P : LineRead → Type 0) (line : List ℕ) (holds : HoldsByKind P line) (read : LineRead) where
  defining : (rest : List ℕ) (r : Result (List ℕ × Texts) ReadRefusal) → index_of rest ≡ r → Comes (asked_to_define r) read → P read
  defining rest (Err refusal) e is = subst P (sym is) (holds.refused refusal)
  defining rest (Ok given) e is = subst P (sym is.read) (holds.defined rest given is.answer e is.says)

  querying : (text : List ℕ) (asking : Asking) → ((answer : Result Query QueryRefusal) → SaysQuery text answer → P (asked_by_text asking answer)) → Comes (Querying text asking) read → P read
  querying text asking each is = subst P (sym is.read) (each is.answer is.says)

  asking : (rest : List ℕ) (r : Result (List ℕ × Asking) ReadRefusal) → asking_of rest ≡ r → Comes (asked_to_query r) read → P read
  asking rest (Err refusal) e is = subst P (sym is) (holds.refused refusal)
  asking rest (Ok given) e is = querying given.0 given.1 (λ answer says. holds.asked rest given answer e says) is

  defining_several : (rest : List ℕ) (r : Result SeveralTexts ReadRefusal) → several_of rest ≡ r → Comes (asked_to_define_several r) read → P read
  defining_several rest (Err refusal) e is = subst P (sym is) (holds.refused refusal)
  defining_several rest (Ok texts) e is = subst P (sym is.read) (holds.defined_several rest texts is.answer e is.says)

  asking_several : (rest : List ℕ) (r : Result (List ℕ × Asking) ReadRefusal) → asking_of rest ≡ r → Comes (asked_to_query_several r) read → P read
  asking_several rest (Err refusal) e is = subst P (sym is) (holds.refused refusal)
  asking_several rest (Ok given) e is = subst P (sym is.read) (holds.asked_several rest given is.answer e is.says)

  plain : Comes (Plain (line_of line)) read → P read
  plain is = subst P (sym is) holds.plain

  either : (b : Bool) (x y : Asked) → Comes (cond b x y) read → (b ≡ true → Comes x read → P read) → (Comes y read → P read) → P read
  either true x y is f g = f refl is
  either false x y is f g = g is

  by_word : (parts : List ℕ × List ℕ) → is_utf8 line ≡ true → argument_and_rest line ≡ Some parts → Comes (asked_with line parts.0 parts.1) read → P read
  by_word parts u e is =
      let rest = parts.1 in
      either (bytes_eq parts.0 (codes "INDEX")) (asked_to_define (index_of rest)) _ is (λ _. defining rest (index_of rest) refl) (λ is.
      either (bytes_eq parts.0 (codes "QUERY")) (Querying rest plain_asking) _ is (λ _. querying rest plain_asking (λ answer says. holds.queried parts answer u e says)) (λ is.
      either (bytes_eq parts.0 (codes "ASK")) (asked_to_query (asking_of rest)) _ is (λ _. asking rest (asking_of rest) refl) (λ is.
      either (bytes_eq parts.0 (codes "MULTI")) (asked_to_define_several (several_of rest)) _ is (λ _. defining_several rest (several_of rest) refl) (λ is.
      either (bytes_eq parts.0 (codes "MASK")) (asked_to_query_several (asking_of rest)) (Plain (line_of line)) is (λ _. asking_several rest (asking_of rest) refl) plain))))

  by_parts : (parts : Option (List ℕ × List ℕ)) → argument_and_rest line ≡ parts → Comes (asked_by line parts) read → P read
  by_parts None e is = plain is
  by_parts (Some parts) e is = either (is_utf8 line) (asked_with line parts.0 parts.1) (Plain (line_of line)) is (λ u. by_word parts u e) plain

  pub holds-by-kind : IsLine line read → P read
  holds-by-kind is = by_parts (argument_and_rest line) refl is
