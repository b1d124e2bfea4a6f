-- The options of a measurement.
use Rattle.spec_measure.specs.Requests as is
use Rattle.raven_measure.specs.declared.options.Options.{Options}

abbrev pub options_view : Options → is.Options
options_view o = record { seed = o.seed; docs = o.docs; batch = o.batch }
