-- What a line that is text asks, by its first word.
use Rattle.std.proofs.Common.{◌≡◌, ℕ, List, [], ◌∷◌, length, true, false, Option, Some, None, Result, Ok, Err, refl, sym, ap, subst, ◌∙◌}
use Rattle.std.specs.Prelude.{◌==◌, if◌then◌else◌, codes}
use Rattle.std.specs.Str.{IsUtf8, bytes_eq, is_utf8}
use Rattle.std.proofs.lemmas.Bool.{false_from_ne_true}
use Rattle.std.proofs.lemmas.Slice.Eq.{bytes_eq-Decides}
use Rattle.std.proofs.lemmas.Str.{IsUtf8-from_is_utf8, is_utf8-from_IsUtf8}
use Rattle.spec_server.specs.Requests as is
use Rattle.spec_server.specs.Words as read
use Rattle.spec_server.specs.Words.{argument_and_rest}
use Rattle.spec_server.specs.Reading.{by_command, do_read, line_of, publish_of, read_of, request_of, told_of}
use Rattle.spec_server.specs.Texts.{Plain, asked_by, asked_of, asked_with}
use Rattle.raven_request.proofs.Readings.{refused_on}
use Rattle.raven_request.proofs.Requesting.{plainly-refused}
use Rattle.raven_request.specs.RequestRead.{Asks, ComesToRefusal}
use Rattle.raven_request.specs.RequestView.{Reads, request_view}
use Rattle.raven_request.specs.declared.request.ReadRefusal.{ReadRefusal}
use Rattle.raven_request.specs.declared.request.ReadRefusal.TheVariants as refusal
use Rattle.raven_request.specs.declared.request.Request.{Request}
use Rattle.raven_script.specs.LineView.{AsksLine, line_told, line_view, word_asked, word_told}
use Rattle.raven_script.specs.declared.request.Line.{Line}

-- a line with a first word and a rest is none of those of one word
other_line : (line name : List ℕ) (parts : List ℕ × List ℕ) → argument_and_rest line ≡ Some parts → argument_and_rest name ≡ None → bytes_eq line name ≡ false
other_line line name parts is lone =
    false_from_ne_true (bytes_eq line name) (λ same. let none : Some parts ≡ None = sym is ∙ ap argument_and_rest ((bytes_eq-Decides line name).0 same) ∙ lone in absurd cc)

pub same-word : (word name : List ℕ) → word ≡ name → bytes_eq word name ≡ true
same-word word name same = (bytes_eq-Decides word name).1 same

pub other-word : (word name : List ℕ) → (word ≡ name → ⊥) → bytes_eq word name ≡ false
other-word word name other = false_from_ne_true (bytes_eq word name) (λ same. other ((bytes_eq-Decides word name).0 same))

-- where a line has a first word and a rest
module _ (line word rest : List ℕ) (is : argument_and_rest line ≡ Some (word, rest)) where
  request : request_of line ≡ by_command word rest
  request =
      rw (other_line line (codes "STATS") (word, rest) is refl, other_line line (codes "INDEXES") (word, rest) is refl, other_line line (codes "TIDY") (word, rest) is refl, other_line line (codes "CLEAN") (word, rest) is refl, is) refl

  told : (utf8 : is_utf8 line ≡ true) → line_of line ≡ line_told (word_told word rest)
  told utf8 = by line refl
    where
      by : (bytes : List ℕ) → bytes ≡ line → line_of line ≡ line_told (word_told word rest)
      by [] same =
          let none : (let o : Option (List ℕ × List ℕ) = None in o) ≡ Some (word, rest) = ap argument_and_rest same ∙ is in
          absurd cc
      by (b ∷ bs) same =
          ap line_of (sym same)
          ∙ ap (λ u. if u then line_told (told_of (b ∷ bs) (argument_and_rest (b ∷ bs))) else Err read.UnknownLine) (ap is_utf8 same ∙ utf8)
          ∙ ap (λ l. line_told (told_of l (argument_and_rest l))) same
          ∙ ap (λ parts. line_told (told_of line parts)) is
          ∙ ap (λ r. line_told (if bytes_eq word (codes "READ") then read_of rest else (if bytes_eq word (codes "PUBLISH") then publish_of rest else do_read r))) request

  asked : IsUtf8 line → asked_of line ≡ word_asked word rest
  asked text =
      let utf8 : is_utf8 line ≡ true = is_utf8-from_IsUtf8 line text in
      ap (asked_by line) is
      ∙ ap (λ u. if u then asked_with line word rest else Plain (line_of line)) utf8
      ∙ by (told utf8)
    where
      by : line_of line ≡ line_told (word_told word rest) → asked_with line word rest ≡ word_asked word rest
      by e = rw e refl

  pub by-word : IsUtf8 line → (result : Result Line ReadRefusal) → AsksLine (word_asked word rest) result → AsksLine (asked_of line) result
  by-word text result h = subst (λ a. AsksLine a result) (sym (asked text)) h

-- where it has none
pub by-request : (line : List ℕ) → (length line == 0) ≡ false → IsUtf8 line → argument_and_rest line ≡ None → asked_of line ≡ Plain (line_told (do_read (request_of line)))
by-request [] some text none = absurd cc
by-request (b ∷ bs) some text none =
    ap (asked_by (b ∷ bs)) none
    ∙ ap (λ u. Plain (if u then line_told (told_of (b ∷ bs) (argument_and_rest (b ∷ bs))) else Err read.UnknownLine)) (is_utf8-from_IsUtf8 (b ∷ bs) text)
    ∙ ap (λ parts. Plain (line_told (told_of (b ∷ bs) parts))) none

no_text : (line : List ℕ) → (length line == 0) ≡ false → ¬ (IsUtf8 line) → asked_of line ≡ Plain (Err read.UnknownLine)
no_text [] some text = absurd cc
no_text (b ∷ bs) some text = by (argument_and_rest (b ∷ bs))
  where
    wrong : is_utf8 (b ∷ bs) ≡ false
    wrong = false_from_ne_true (is_utf8 (b ∷ bs)) (λ t. text (IsUtf8-from_is_utf8 (b ∷ bs) t))

    told : line_of (b ∷ bs) ≡ Err read.UnknownLine
    told = ap (λ u. if u then line_told (told_of (b ∷ bs) (argument_and_rest (b ∷ bs))) else Err read.UnknownLine) wrong

    by : (parts : Option (List ℕ × List ℕ)) → asked_by (b ∷ bs) parts ≡ Plain (Err read.UnknownLine)
    by None = ap Plain told
    by (Some parts) = ap (λ u. if u then asked_with (b ∷ bs) parts.0 parts.1 else Plain (line_of (b ∷ bs))) wrong ∙ ap Plain told

-- a line that is no text
pub no-text : (line : List ℕ) → (length line == 0) ≡ false → ¬ (IsUtf8 line) → ComesToRefusal (asked_of line) refusal.UnknownLine
no-text line some text = subst (λ a. ComesToRefusal a refusal.UnknownLine) (sym (no_text line some text)) (plainly-refused (Err read.UnknownLine) refusal.UnknownLine refl)

-- a line in which no texts of a definition or of a query are read
pub asks-line : (told : Result is.Line read.ReadRefusal) (result : Result Line ReadRefusal) → Reads line_view result told → AsksLine (Plain (line_told told)) result
asks-line told (Ok line) h = sym (ap line_told h)
asks-line told (Err why) h = plainly-refused (line_told told) why (refused_on why told (λ line. Ok (Some line)) h)

-- and one with a request
pub asks-request : (told : Result is.Request read.ReadRefusal) (result : Result Request ReadRefusal) → Reads request_view result told → Asks (Plain (line_told (do_read told))) result
asks-request told (Ok asked_for) h = sym (ap (λ r. line_told (do_read r)) h)
asks-request told (Err why) h = plainly-refused (line_told (do_read told)) why (refused_on why (do_read told) (λ line. Ok (Some line)) (refused_on why told (λ r. Ok (is.Do r)) h))

pub ruleset asking = (asks-line, asks-request)
