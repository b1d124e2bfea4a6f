-- The first token of printed bytes, and what is behind it.
use Rattle.std.proofs.Common.{◌≡◌, ◌≢◌, ◌<◌, ◌≤◌, ◌+◌, ℕ, List, [], ◌∷◌, ◌++◌, length, take, drop, arith, refl, sym, subst, ap, ap₂, ◌∙◌, add-one, append_assoc, Option, Some, None, Bool, true, false, flat_map, pos}
use Rattle.std.proofs.Math.Seq.{take-append_seam, drop-append_seam, drop-append-add}
use Rattle.std.proofs.lemmas.Bool.{and_parts}
use Rattle.std.proofs.lemmas.Grind.{common_steps}
use Rattle.std.specs.Prelude.{◌&&◌, ◌||◌, option_map}
use Rattle.std.specs.Fmt.{decimal}
use Rattle.std.specs.List.{list_all}
use Rattle.index_tokens.specs.declared.token.Token.{Token}
use Rattle.index_tokens.specs.declared.token.Token.TheVariants as t
use Rattle.index_tokens.specs.Spelling.{is_blank, is_letter, is_digit, is_name_byte, number_of, max_number, single, double}
use Rattle.index_tokens.specs.Tokens.{placed, or_shorter, or_all, first_token, tokens_from}
use Rattle.index_tokens.specs.Passes.{run, text_from, word_prefix, number_prefix, quoted_prefix, mark_at, mark_prefix}
use Rattle.index_tokens.proofs.PrefixLemmas.{words, numbers, texts, marks}
use Rattle.index_tokens.proofs.TurnLemmas.{at_blank, at_token}
use Rattle.index_print.specs.Print.{escaped, quoted}
use Rattle.index_print.specs.Spellable.{IsName, IsQuotable, Stops, IsApart}
use Rattle.index_print.proofs.Quotes.{read_back}
use Rattle.index_print.proofs.Digits.{digits, number_is}

-- The bytes begin with this token, behind a gap or not, and with the others behind it.
pub record Next (x : Token) (place : ℕ) (s r : List ℕ) : Type 0 where
  pub start : ℕ
  pub behind : ℕ
  pub is : tokens_from place 0 s ≡ placed start x ∷ tokens_from behind 0 r

pub behind_gap : (place : ℕ) (s r : List ℕ) (x : Token) → Next x (place + 1) s r → Next x place (32 ∷ s) r
behind_gap place s r x n = record { start = n.start; behind = n.behind; is = at_blank (32 ∷ s) s 32 place refl refl ∙ n.is }

pub before_gap : (place : ℕ) (s r : List ℕ) (x : Token) → Next x place s (32 ∷ r) → Next x place s r
before_gap place s r x n = record { start = n.start; behind = n.behind + 1; is = n.is ∙ ap (λ z. placed n.start x ∷ z) (at_blank (32 ∷ r) r 32 n.behind refl refl) }

next_at : (place k b : ℕ) (bs r : List ℕ) (x : Token) → is_blank b ≡ false → first_token (b ∷ bs) ≡ (x, k) → drop k (b ∷ bs) ≡ r → Next x place (b ∷ bs) r
next_at place k b bs r x blank is rest = record {
  start = place;
  behind = place + k;
  is = at_token (b ∷ bs) bs b place k x refl blank (sym is) ∙ ap (λ z. placed place x ∷ tokens_from (place + k) 0 z) rest;
}

-- NAMES AND NUMBERS

run_whole : (test : ℕ → Bool) (w s : List ℕ) → list_all test w ≡ true → Stops test s → run test (w ++ s) ≡ length w
run_whole test [] [] all stops = refl
run_whole test [] (b ∷ bs) all stops = rw stops refl
run_whole test (a ∷ w) s all stops =
    let parts = and_parts (test a) (list_all test w) all in
    let rest : run test (w ++ s) ≡ length w = run_whole test w s parts.1 stops in
    rw parts.0 (omega (arith, rest))

or_second : (x y : Bool) → (x || y) ≡ false → y ≡ false
or_second true y e = cc
or_second false y e = e

no_digit : (s : List ℕ) → IsApart s → Stops is_digit s
no_digit [] apart = tt
no_digit (b ∷ s) apart = or_second (is_letter b) (is_digit b) apart

letter_no_blank : (b : ℕ) → is_letter b ≡ true → is_blank b ≡ false
letter_no_blank b h = grind (arith, common_steps)

digit_no_blank : (b : ℕ) → is_digit b ≡ true → is_blank b ≡ false
digit_no_blank b h = grind (arith, common_steps)

digit_no_letter : (b : ℕ) → is_digit b ≡ true → is_letter b ≡ false
digit_no_letter b h = grind (arith, common_steps)

letter_in_name : (b : ℕ) → is_letter b ≡ true → is_name_byte b ≡ true
letter_in_name b is = rw is refl

pub word_next : (w : List ℕ) → IsName w → (place : ℕ) (s : List ℕ) → IsApart s → Next (t.Word w) place (w ++ s) s
word_next [] name place s apart = absurd name
word_next (b ∷ w) name place s apart =
    let whole = b ∷ (w ++ s) in
    let len : run is_name_byte whole ≡ length (b ∷ w) = run_whole is_name_byte (b ∷ w) s (ap₂ (λ (x y : Bool). x && y) (letter_in_name b name.0) name.1) apart in
    next_at place (length (b ∷ w)) b (w ++ s) s (t.Word (b ∷ w)) (letter_no_blank b name.0)
    (sym (words whole (w ++ s) b (word_prefix whole) refl name.0 refl) ∙ ap (λ k. (t.Word (take k whole), k)) len ∙ ap (λ z. (t.Word z, length (b ∷ w))) (take-append_seam (b ∷ w) s))
    (drop-append_seam (b ∷ w) s)

digits_next : (w : List ℕ) (x : Token) → list_all is_digit w ≡ true → 0 < length w → number_of w ≡ x → (place : ℕ) (s : List ℕ) → IsApart s → Next x place (w ++ s) s
digits_next [] x all some is place s apart = absurd (omega arith)
digits_next (b ∷ w) x all some is place s apart =
    let whole = b ∷ (w ++ s) in
    let digit : is_digit b ≡ true = (and_parts (is_digit b) (list_all is_digit w) all).0 in
    let len : run is_digit whole ≡ length (b ∷ w) = run_whole is_digit (b ∷ w) s all (no_digit s apart) in
    next_at place (length (b ∷ w)) b (w ++ s) s x (digit_no_blank b digit)
    (sym (numbers whole (w ++ s) b (number_prefix whole) refl (digit_no_letter b digit) digit refl) ∙ ap (λ k. (number_of (take k whole), k)) len
    ∙ ap (λ z. (number_of z, length (b ∷ w))) (take-append_seam (b ∷ w) s) ∙ ap (λ z. (z, length (b ∷ w))) is)
    (drop-append_seam (b ∷ w) s)

pub number_next : (n : ℕ) → n ≤ max_number → (place : ℕ) (s : List ℕ) → IsApart s → Next (t.Number (pos n)) place (decimal n ++ s) s
number_next n h = let d = digits n h in digits_next (decimal n) (t.Number (pos n)) d.0 d.2 (number_is n h)

-- TEXTS

pub quoted_next : (value : List ℕ) → IsQuotable value → (place : ℕ) (s : List ℕ) → Next (t.Quoted value) place (quoted value ++ s) s
quoted_next value h place s =
    let text = flat_map escaped value in
    let inner = text ++ 34 ∷ s in
    let read : text_from [] 0 inner ≡ Some (value, length text + 1) = read_back value h [] 0 s ∙ ap (λ k. Some (value, k + 1)) (omega arith) in
    let step : Next (t.Quoted value) place (34 ∷ inner) s =
    next_at place (length text + 1 + 1) 34 inner s (t.Quoted value) refl
    (sym (texts (34 ∷ inner) inner 34 (quoted_prefix (34 ∷ inner) inner) refl refl refl) ∙ ap (λ o. or_all (34 ∷ inner) (option_map (λ part. (t.Quoted part.0, part.1 + 1)) o)) read)
    (rw (add-one (length text + 1)) (drop-append-add text (34 ∷ s) 1)) in
    subst (λ z. Next (t.Quoted value) place (34 ∷ z) s) (sym (append_assoc text (34 ∷ []) s)) step

-- MARKS

-- the next byte, if there is one, makes no longer mark
abbrev pub IsAlone : ℕ → List ℕ → Type 0
IsAlone b [] = Unit {0}
IsAlone b (c ∷ s) = double b c ≡ None

alone_at : (b : ℕ) (x : Token) (s : List ℕ) → single b ≡ Some x → IsAlone b s → mark_at (b ∷ s) ≡ Some (x, 1)
alone_at b x [] is alone = ap (λ o. or_shorter 1 o None) is
alone_at b x (c ∷ s) is alone = ap₂ (λ (p q : Option Token). or_shorter 2 p (or_shorter 1 q None)) alone is

-- neither a letter, a digit, a quote nor a blank
abbrev pub IsMark : ℕ → Type 0
IsMark b = (is_letter b ≡ false) × (is_digit b ≡ false) × (b ≢ 34) × (is_blank b ≡ false)

pub mark_next : (b : ℕ) (x : Token) → IsMark b → single b ≡ Some x → (place : ℕ) (s : List ℕ) → IsAlone b s → Next x place (b ∷ s) s
mark_next b x mark is place s alone =
    next_at place 1 b s s x mark.3 (sym (marks (b ∷ s) s b (mark_prefix (b ∷ s)) refl mark.0 mark.1 mark.2 refl) ∙ ap (or_all (b ∷ s)) (alone_at b x s is alone)) refl

pub double_next : (b c : ℕ) (x : Token) → IsMark b → double b c ≡ Some x → (place : ℕ) (s : List ℕ) → Next x place (b ∷ c ∷ s) s
double_next b c x mark is place s =
    next_at place 2 b (c ∷ s) s x mark.3
    (sym (marks (b ∷ c ∷ s) (c ∷ s) b (mark_prefix (b ∷ c ∷ s)) refl mark.0 mark.1 mark.2 refl) ∙ ap (λ o. or_all (b ∷ c ∷ s) (or_shorter 2 o (or_shorter 1 (single b) None))) is) refl

-- where no byte makes a longer mark
any_alone : (b : ℕ) → ((c : ℕ) → double b c ≡ None) → (s : List ℕ) → IsAlone b s
any_alone b never [] = tt
any_alone b never (c ∷ s) = never c

pub open_next : (place : ℕ) (s : List ℕ) → Next t.Open place (40 ∷ s) s
open_next place s = mark_next 40 t.Open (refl, refl, λ e. omega arith, refl) refl place s (any_alone 40 (λ c. refl) s)

pub close_next : (place : ℕ) (s : List ℕ) → Next t.Close place (41 ∷ s) s
close_next place s = mark_next 41 t.Close (refl, refl, λ e. omega arith, refl) refl place s (any_alone 41 (λ c. refl) s)

pub point_next : (place : ℕ) (s : List ℕ) → Next t.Point place (46 ∷ s) s
point_next place s = mark_next 46 t.Point (refl, refl, λ e. omega arith, refl) refl place s (any_alone 46 (λ c. refl) s)

pub dash_next : (place : ℕ) (s : List ℕ) → Next t.Dash place (45 ∷ s) s
dash_next place s = mark_next 45 t.Dash (refl, refl, λ e. omega arith, refl) refl place s (any_alone 45 (λ c. refl) s)

pub bang_next : (place : ℕ) (s : List ℕ) → IsAlone 33 s → Next t.Bang place (33 ∷ s) s
bang_next place s alone = mark_next 33 t.Bang (refl, refl, λ e. omega arith, refl) refl place s alone

-- with the gap behind it
pub comma_next : (place : ℕ) (s : List ℕ) → Next t.Comma place (44 ∷ 32 ∷ s) s
comma_next place s = before_gap place _ s t.Comma (mark_next 44 t.Comma (refl, refl, λ e. omega arith, refl) refl place (32 ∷ s) refl)

-- with a gap on both sides
pub between_gaps : (b : ℕ) (x : Token) → IsMark b → single b ≡ Some x → double b 32 ≡ None → (place : ℕ) (s : List ℕ) → Next x place (32 ∷ b ∷ 32 ∷ s) s
between_gaps b x mark is alone place s = behind_gap place _ s x (before_gap (place + 1) _ s x (mark_next b x mark is (place + 1) (32 ∷ s) alone))

pub double_between_gaps : (b c : ℕ) (x : Token) → IsMark b → double b c ≡ Some x → (place : ℕ) (s : List ℕ) → Next x place (32 ∷ b ∷ c ∷ 32 ∷ s) s
double_between_gaps b c x mark is place s = behind_gap place _ s x (before_gap (place + 1) _ s x (double_next b c x mark is (place + 1) (32 ∷ s)))

pub question_next : (place : ℕ) (s : List ℕ) → Next t.Question place (32 ∷ 63 ∷ 32 ∷ s) s
question_next = between_gaps 63 t.Question (refl, refl, λ e. omega arith, refl) refl refl

pub colon_next : (place : ℕ) (s : List ℕ) → Next t.Colon place (32 ∷ 58 ∷ 32 ∷ s) s
colon_next = between_gaps 58 t.Colon (refl, refl, λ e. omega arith, refl) refl refl

pub slash_next : (place : ℕ) (s : List ℕ) → Next t.Slash place (32 ∷ 47 ∷ 32 ∷ s) s
slash_next = between_gaps 47 t.Slash (refl, refl, λ e. omega arith, refl) refl refl

pub assign_next : (place : ℕ) (s : List ℕ) → Next t.Assign place (32 ∷ 61 ∷ 32 ∷ s) s
assign_next = between_gaps 61 t.Assign (refl, refl, λ e. omega arith, refl) refl refl

-- a word and the gap behind it
pub word_gap : (w : List ℕ) → IsName w → (place : ℕ) (s : List ℕ) → Next (t.Word w) place (w ++ 32 ∷ s) s
word_gap w name place s = before_gap place _ s (t.Word w) (word_next w name place (32 ∷ s) refl)

pub gap_word_gap : (w : List ℕ) → IsName w → (place : ℕ) (s : List ℕ) → Next (t.Word w) place (32 ∷ (w ++ 32 ∷ s)) s
gap_word_gap w name place s = behind_gap place _ s (t.Word w) (word_gap w name (place + 1) s)

pub brace_gap : (place : ℕ) (s : List ℕ) → Next t.OpenBrace place (123 ∷ 32 ∷ s) s
brace_gap place s = before_gap place _ s t.OpenBrace (mark_next 123 t.OpenBrace (refl, refl, λ e. omega arith, refl) refl place (32 ∷ s) refl)

-- with the gap before it
pub close_brace_next : (place : ℕ) (s : List ℕ) → Next t.CloseBrace place (32 ∷ 125 ∷ s) s
close_brace_next place s = behind_gap place _ s t.CloseBrace (mark_next 125 t.CloseBrace (refl, refl, λ e. omega arith, refl) refl (place + 1) s (any_alone 125 (λ c. refl) s))
