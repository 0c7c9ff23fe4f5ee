-- What the kind byte of a line says.
--   tag_byte   the byte of a tag: that of a kind, or 128 and the byte of the kind that is answered
use Rattle.std.specs.Prelude.{ℕ, ◌+◌}
use Rattle.frame.specs.Kinds.{byte_of}
use Rattle.frame.specs.Frames.{numbered}
use Rattle.frame.specs.declared.tags.Tag.{Tag}
use Rattle.frame.specs.declared.tags.Tag.TheVariants.{Asks, Answers}

abbrev pub tag_byte : Tag → ℕ
tag_byte (Asks kind) = byte_of kind
tag_byte (Answers to) = 128 + numbered to
