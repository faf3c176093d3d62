use Rattle.std.proofs.Common.{sym}
use Rattle.listing_text.proofs.FieldLemmas.{word-utf8}
use Rattle.listing_text.proofs.fields.word_in.Goals as goal

pub returns-in-Err : goal.returns-in-Err
returns-in-Err c = absurd (c.in-Err.ensures.cases.0 (word-utf8 c.split_at.result.0.now (sym c.if-not-is_word.ensures)))
