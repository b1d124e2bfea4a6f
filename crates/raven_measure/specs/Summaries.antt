-- The summary of a measurement.
use Rattle.spec_measure.specs.Summary as is
use Rattle.raven_measure.specs.declared.summary.Summary.{Summary}

abbrev pub summary_view : Summary → is.Summary
summary_view s = record { batches = s.batches; docs = s.docs; groups = s.groups; is_stale = s.is_stale; total = s.total }
