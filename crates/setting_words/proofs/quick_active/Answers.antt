use Rattle.setting_words.proofs.quick_active.Goals as goal

pub active_words-requires : goal.active_words-requires
active_words-requires c = c.has_bits.ensures c.if-has_bits.true
