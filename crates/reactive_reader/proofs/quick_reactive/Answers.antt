use Rattle.reactive_reader.proofs.quick_reactive.Goals as goal

pub reactive_word-requires : goal.reactive_word-requires
reactive_word-requires c = c.has_bits.ensures c.if-has_bits.true
