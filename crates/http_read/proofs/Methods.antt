-- A token of `httparse` is one of `http`.
use Rattle.std.specs.Prelude.{ℕ, List, IsTrue}
use Rattle.httparse.specs.Grammar.{IsToken, is_token_byte}
use Rattle.http_header.specs.Token as header

same_byte : (b : ℕ) → IsTrue (is_token_byte b) → IsTrue (header.is_token_byte b)
unfolding is_token_byte header.is_token_byte
same_byte b h = h

pub is_method : (bytes : List ℕ) → IsToken bytes → header.IsToken bytes
is_method bytes token = (token.0, λ i d l. same_byte _ (token.1 i d l))
