-- Areas that stay stand for what they stood for.
use Rattle.std.proofs.Common.{◌≡◌, refl, sym, subst}
use Rattle.server_requests.specs.CdEdges.Disk.{Areas, Cloud, Image, IsImage}
use Rattle.server_requests.specs.UserDedup.Exec.{Peer, MaySettleAs}
use Rattle.blob_copy.specs.CloudAreas.Peers.{StandsForSome}
use Rattle.server_requests.specs.CloudStore.store.CloudStore.{CloudStore}
use Rattle.server_requests.proofs.OfCloudStore.Keeping.{areas_serve}
use Rattle.share_server.specs.Serving.{ServesAs}

pub areas_keep : (s : CloudStore) (old new : Cloud) (p : Peer) → new.told ≡ old.told → new.now ≡ old.now → ServesAs s old p
    → ServesAs s new (record { list = p.list; pending = p.pending; faults = new.faults; armings = new.armings })
areas_keep s old new p told now serving = record {
  stands = record {
    images = subst (λ (a : Areas). (image : Image) → IsImage a image → StandsForSome s.header (MaySettleAs p) image) (sym now) serving.stands.images;
    faults = refl;
    armings = refl;
  };
  within = serving.within;
  ready = λ opened. (let some = serving.ready opened in record { c = some.c; serves = areas_serve p.list some.c s old new told now some.serves });
}
