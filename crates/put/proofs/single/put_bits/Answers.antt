use Rattle.std.proofs.Common.{refl}
use Rattle.rules.specs.Put.{put}
use Rattle.rules.specs.Types.{bits}
use Rattle.rules.proofs.Laws.Put.Relative.{put_bits_relative}
use Rattle.put.proofs.Placing.{fits_there, put_there}
use Rattle.put.proofs.single.put_bits.Goals as goal

pub placed-requires : goal.placed-requires
placed-requires c = fits_there (put bits) put_bits_relative _ _ c.put_bits.ensures bits refl c.requires

pub returns : goal.returns
returns c = put_there (put bits) put_bits_relative _ _ c.put_bits.ensures c.placed.ensures
