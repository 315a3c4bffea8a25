-- The request that a view in the bytes is of, and what reading returns.
use Rattle.messages.specs.declared.request.Request.{Request}
use Rattle.messages.specs.declared.request.Request.TheVariants as requests
use Rattle.messages.specs.declared.view.RequestView.{RequestView}
use Rattle.messages.specs.declared.view.RequestView.TheVariants as views

abbrev pub seen : RequestView → Request
seen views.Hello = requests.Hello
seen (views.Query user fps) = requests.Query user fps
seen (views.Put user shares) = requests.Put user shares
seen (views.Commit user tag version recipe) = requests.Commit user tag version recipe.now
seen (views.GetRecipe user tag version) = requests.GetRecipe user tag version
seen (views.GetShares user fps) = requests.GetShares user fps
seen (views.List user after) = requests.List user after
seen (views.Delete user tag version) = requests.Delete user tag version
