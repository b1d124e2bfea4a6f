-- What a run comes to.
use Rattle.std.specs.Prelude.{ℕ, ℤ, pos, ◌+◌, ◌+ℤ◌, List, [], ◌∷◌, ◌++◌, Bool, false, not, ◌==◌, if◌then◌else◌, Option, Some, codes}
use Rattle.std.specs.List.{list_any}
use Rattle.spec_data.specs.Data.{Data, flag, num}
use Rattle.spec_data.specs.Members.{member_of}
use Rattle.spec_data.specs.Written.{text_of}
use Rattle.spec_server.specs.Requests.{Ask, Do, Event, Request, takes_all}
use Rattle.spec_server.specs.Courses.{Machine}
use Rattle.spec_server.specs.Answers.{count_documents}
use Rattle.spec_server.specs.Machine.{after, course_of}
use Rattle.spec_server.specs.Replies.{Answer, Pumped, Reply, members, number}
use Rattle.spec_measure.specs.Requests.{rows_ask}

-- REQUESTS ONE AFTER ANOTHER

-- a request, and the moment at which it is made
pub record Timed : Type 0 where
  pub request : Request
  pub now : ℕ

-- it is made, and the keeper takes what it writes
abbrev pub event_of : Timed → Event
event_of t = record { line = Do t.request; now = t.now; keeping = takes_all }

abbrev pub after_all : List Timed → Machine → Machine
after_all [] M = M
after_all (t ∷ ts) M = after_all ts (after M (event_of t))

-- the reply to a batch, of which one has moved the etag of its index
abbrev pub is_moving : Reply → Bool
is_moving (Pumped batches) = list_any (λ p. not (p.from == p.to)) batches
is_moving other = false

abbrev pub one_if : Bool → ℕ
one_if b = if b then 1 else 0

-- how many of the requests have moved an etag
abbrev pub moving : List Timed → Machine → ℕ
moving [] M = 0
moving (t ∷ ts) M = one_if (is_moving (course_of M.world t.now t.request).reply) + moving ts (after M (event_of t))

-- THE SUMMARY

pub record Summary : Type 0 where
  -- how many batches have moved the etag of the index
  pub batches : ℕ
  -- how many orders there are in the end
  pub docs : ℕ
  -- how many rows the index has
  pub groups : ℕ
  pub is_stale : Bool
  -- the sum of the totals of its rows
  pub total : ℤ

-- the number at the member Total of a row
abbrev pub total_at : Option Data → ℤ
total_at (Some (num n)) = n
total_at other = pos 0

abbrev pub total_of : List Data → ℤ
total_of [] = pos 0
total_of (row ∷ rows) = total_at (member_of (codes "Total") row) +ℤ total_of rows

-- after so many batches and with so many documents, by what the query for all rows is answered
abbrev pub summary_by : ℕ → ℕ → Reply → Summary
summary_by batches docs (Answer a) = record { batches = batches; docs = docs; groups = a.total; is_stale = a.is_stale; total = total_of a.results }
summary_by batches docs other = record { batches = batches; docs = docs; groups = 0; is_stale = false; total = pos 0 }

-- All documents are orders. A query on an index changes nothing, so the moment does not matter.
abbrev pub summary_of : ℕ → Machine → Summary
summary_of batches M = summary_by batches (count_documents M.world.store) (course_of M.world 0 (Ask rows_ask)).reply

abbrev pub summary_data : Summary → Data
summary_data s = members (
    (codes "Batches", number s.batches)
    ∷ (codes "Docs", number s.docs)
    ∷ (codes "Groups", number s.groups)
    ∷ (codes "IsStale", flag s.is_stale)
    ∷ (codes "Total", num s.total)
    ∷ [])

-- as one line
abbrev pub printed_summary : Summary → List ℕ
printed_summary s = text_of (summary_data s) ++ 10 ∷ []
