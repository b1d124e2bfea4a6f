-- Readings of parts of rules, for functions that read just these.
use Rattle.std.specs.Prelude.{Option, Some, None, if◌then◌else◌}
use Rattle.exact_parse.specs.Steps.{◌>>=◌, ◌>>◌, skip, pure, choose}
use Rattle.index_tokens.specs.Reads.{Reads}
use Rattle.index_tokens.specs.Words.{next_is, word_where, word_let}
use Rattle.index_tree.specs.Trees.{Tree}
use Rattle.index_tree.specs.declared.map_query.Clause.{Clause}
use Rattle.index_grammar.specs.MapReading.{filter, binding}

-- the next token, which is this expression
abbrev pub single : Tree → Reads Tree
single a = skip >> pure a

-- the clause that comes next, if one does
abbrev pub clause_if_any : Reads (Option Clause)
clause_if_any = choose (λ h.
    if next_is word_where h then (skip >> (filter >>= λ a. pure (Some a))) else (
    if next_is word_let h then (skip >> (binding >>= λ a. pure (Some a))) else pure None))
