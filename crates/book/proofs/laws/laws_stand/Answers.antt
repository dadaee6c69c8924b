use Rattle.std.proofs.Common.{refl}
use Rattle.book.proofs.Lawful.{put_then_get, put_elsewhere, refused_put, place_stays, alike}
use Rattle.book.proofs.laws.laws_stand.Goals as goal

pub returns : goal.returns
returns c = (put_then_get, put_elsewhere, refused_put, λ m column lot. refl, place_stays, alike)
