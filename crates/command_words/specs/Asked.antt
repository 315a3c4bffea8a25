-- What the words of a command ask for, without where they lie in memory.
use Rattle.std.specs.Prelude.{ℕ, List}
use Rattle.session.specs.CdBase.ids.CloudNo.{CloudNo}
use Rattle.session.specs.CdBase.ids.UserId.{UserId}
use Rattle.session.specs.CdBase.ids.Version.{Version}
use Rattle.session.specs.CdBase.shape.Shape.{Shape}
use Rattle.session.specs.JournalStart.rooms.UserRooms.{UserRooms}

-- a version of a file from the disks of these clouds
pub record AskedRead : Type 0 where
  pub directory : List ℕ
  pub shape : Shape
  pub user : UserId
  pub path : List ℕ
  pub version : Version
  pub clouds : List ℕ

-- one cloud behind this address, for so many connections
pub record AskedServe : Type 0 where
  pub directory : List ℕ
  pub cloud : CloudNo
  pub shape : Shape
  pub address : List ℕ
  pub count : ℕ

-- a version of a file over the clouds behind these addresses
pub record AskedFile : Type 0 where
  pub user : UserId
  pub path : List ℕ
  pub version : Version
  pub addresses : List (List ℕ)

-- the same, where the file and what is done of it are kept in this directory
pub record AskedSpool : Type 0 where
  pub directory : List ℕ
  pub file : AskedFile

-- what was kept in this directory, over the clouds behind these addresses
pub record AskedResume : Type 0 where
  pub directory : List ℕ
  pub addresses : List (List ℕ)

-- one cloud of a store in this directory
pub record AskedCloud : Type 0 where
  pub directory : List ℕ
  pub cloud : CloudNo
  pub shape : Shape

-- one cloud of a store in this directory, in these rooms from then on
pub record AskedMigrate : Type 0 where
  pub place : AskedCloud
  pub rooms : UserRooms

-- the session of so many files of so many pieces that this number gives
pub record AskedSession : Type 0 where
  pub seed : ℕ
  pub files : ℕ
  pub pieces : ℕ
  pub directory : List ℕ

-- what is asked for
pub data Asked : Type 0 where
  ForReplay : (directory : List ℕ) → Asked
  ForRead : (words : AskedRead) → Asked
  ForServe : (words : AskedServe) → Asked
  ForBackup : (words : AskedFile) → Asked
  ForRestore : (words : AskedFile) → Asked
  ForDelete : (words : AskedFile) → Asked
  ForSpool : (words : AskedSpool) → Asked
  ForResume : (words : AskedResume) → Asked
  ForAudit : (words : AskedCloud) → Asked
  ForCheck : (words : AskedCloud) → Asked
  ForReclaim : (words : AskedCloud) → Asked
  ForMigrate : (words : AskedMigrate) → Asked
  ForGenerate : (words : AskedSession) → Asked
